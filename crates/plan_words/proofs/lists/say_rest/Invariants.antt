use Rattle.std.proofs.Common.{◌≡◌, ◌++◌, drop}
use Rattle.plan_words.specs.Appends.{joined_after}
use Rattle.plan_words.proofs.lists.say_rest.Given as goal

abbrev pub invariant-loop-index : goal.invariant-loop-index
invariant-loop-index g l =
    l.out.items ++ joined_after (g.S.Says.item_words l.sayer) (drop l.index l.rest)
    ≡ l.initial.out.items ++ joined_after (g.S.Says.item_words l.sayer) l.rest
