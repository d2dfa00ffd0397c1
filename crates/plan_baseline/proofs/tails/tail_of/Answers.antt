use Rattle.std.proofs.Common.{All, subst, sym}
use Rattle.std.proofs.lemmas.List.Elements.{All-push}
use Rattle.plan_baseline.specs.Tails.{IsTail}
use Rattle.plan_baseline.proofs.tails.tail_of.Goals as goal

pub returns-clause-tails : goal.returns-clause-tails
returns-clause-tails c =
    let Is = IsTail c.args.text.now in
    subst (All Is) (sym c.in_ok-push.ensures.items)
    (All-push Is c.args.tails.now.items c.in-Some-read_tail.tail c.requires.tails c.in-Some-read_tail.ensures.tail)
