use Rattle.std.proofs.Common.{◌≡◌, [], drop, map}
use Rattle.plan_tree.specs.Place.{names_of}
use Rattle.plan_users.specs.Managers.{place_from}
use Rattle.plan_users.proofs.managers.place_of.Given as goal

-- the place so far, with the names that are left, is that of all
abbrev pub invariant-loop-name : goal.invariant-loop-name
invariant-loop-name l = place_from l.place (map (λ name. name.now) (drop l.name-index l.name-items)) ≡ place_from [] (names_of l.fn.path)
