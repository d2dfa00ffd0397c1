use Rattle.std.proofs.Common.{◌≡◌, ◌++◌, List, ℕ, map}
use Rattle.std.specs.Vec.Iter.{into_iter_items}
use Rattle.plan_users.specs.declared.managers.Manager.{Manager}
use Rattle.plan_users.proofs.managers.homes_among.Given as goal

abbrev pub invariant-loop-manager : goal.invariant-loop-manager
invariant-loop-manager l =
    let home_of : Manager → List ℕ = λ manager. manager.home in
    l.homes.items ++ map home_of (into_iter_items l.manager-iterator) ≡ map home_of l.fn.managers.items
