use Rattle.std.proofs.Common.{◌≡◌, drop, map}
use Rattle.std.specs.List.{list_any}
use Rattle.std.specs.Str.{bytes_eq}
use Rattle.plan_units.specs.Validity.{is_type}
use Rattle.plan_units.proofs.validity.is_type.Given as goal

abbrev pub invariant-loop-kind : goal.invariant-loop-kind
invariant-loop-kind l =
    list_any (λ type. bytes_eq type l.text) (map (λ type. type.now) (drop l.kind-index l.kind-items)) ≡ is_type l.text
