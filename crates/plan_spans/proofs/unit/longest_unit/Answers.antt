use Rattle.std.proofs.Common.{◌≡◌, ◌<◌, ◌≤◌, nat_lt, nat_le, refl, rules, tests, find, ap, ◌∙◌}
use Rattle.std.proofs.lemmas.Bool.{ltb-true, leb-true}
use Rattle.std.proofs.lemmas.Iterator.{YieldsList-from_slice}
use Rattle.std.proofs.lemmas.Iterator.Search.{find_from_yields_List}
use Rattle.std.specs.Option.{option_map}
use Rattle.plan_spans.specs.Spans.{units, has_unit, year}
use Rattle.plan_spans.proofs.UnitLemmas.{find-map, IfSome-seen, found_passes, IsLongest, first_is_longest}
use Rattle.plan_spans.proofs.unit.longest_unit.Goals as goal
use Rattle.plan_spans.proofs.unit.longest_unit.Goals.{After-copied}

value : (c : After-copied) → option_map (λ unit. (unit.0.now, unit.1)) c.copied.result ≡ find (has_unit c.args.text.now) units
value c =
    let found = find_from_yields_List (λ unit. has_unit c.args.text.now (unit.0.now, unit.1)) _ _ c.find.result c.find.ensures.ran
    (YieldsList-from_slice _ c.iter.ensures.rest) (λ x b q k. search (rules, tests)) in
    ap (option_map (λ unit. (unit.0.now, unit.1))) (c.copied.ensures ∙ found)
    ∙ find-map (has_unit c.args.text.now) (λ unit. (unit.0.now, unit.1)) c.units.result.now
    ∙ ap (find (has_unit c.args.text.now)) c.units.ensures

pub returns-clause-value : goal.returns-clause-value
returns-clause-value c = value c

pub returns-clause-longest : goal.returns-clause-longest
returns-clause-longest c =
    IfSome-seen (IsLongest (has_unit c.args.text.now) units) (λ unit. (unit.0.now, unit.1)) c.copied.result
    (find (has_unit c.args.text.now) units) (value c) (first_is_longest (has_unit c.args.text.now) units refl)

pub returns-clause-some : goal.returns-clause-some
returns-clause-some c =
    found_passes (has_unit c.args.text.now) (λ unit. nat_lt 0 unit.1) (λ unit. 0 < unit.1) (λ unit. (unit.0.now, unit.1)) c.copied.result
    units (λ unit. ltb-true 0 unit.1) refl (value c)

pub returns-clause-few : goal.returns-clause-few
returns-clause-few c =
    found_passes (has_unit c.args.text.now) (λ unit. nat_le unit.1 year) (λ unit. unit.1 ≤ year) (λ unit. (unit.0.now, unit.1))
    c.copied.result
    units (λ unit. leb-true unit.1 year) refl (value c)
