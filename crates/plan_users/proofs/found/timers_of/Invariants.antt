use Rattle.std.proofs.Common.{◌≡◌, ◌++◌, map}
use Rattle.std.specs.Vec.Iter.{into_iter_items}
use Rattle.plan_users.specs.Found.{user_timer}
use Rattle.plan_users.proofs.found.timers_of.Given as goal

abbrev pub invariant-loop-source : goal.invariant-loop-source
invariant-loop-source l =
    l.timers.items ++ map (user_timer l.user) (into_iter_items l.source-iterator) ≡ map (user_timer l.user) l.fn.sources.items
