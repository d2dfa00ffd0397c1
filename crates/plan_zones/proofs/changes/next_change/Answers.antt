use Rattle.std.proofs.Common.{arith, ap, inl, inr, ◌≡◌, ◌<◌, ◌+◌}
use Rattle.std.proofs.lemmas.Bool.Decides.{leb_tells}
use Rattle.jiff_tz.specs.PosixRule.{transition_view}
use Rattle.plan_zones.specs.Changes.{zone_offset}
use Rattle.plan_zones.proofs.RuleLemmas.{zone_steady-some, zone_steady-none}
use Rattle.plan_zones.proofs.changes.next_change.Goals as goal

pub returns-in-Some-clause-steady : goal.returns-in-Some-clause-steady
returns-in-Some-clause-steady c = λ n from upto in_years year. elim (leb_tells (c.args.second + 1) n) [
  | inl later ↦
      let before : n < c.first_second_from.result = omega arith in
      zone_steady-some c.args.zone.now c.args.second n c.instant_of.result.nanosecond (transition_view c.in-Some.change)
      c.instant_of.ensures c.in-Some.ensures from in_years year ((c.first_second_from.ensures.steps n).0 before)
  | inr at_second ↦
      let same : n ≡ c.args.second = omega arith in
      ap (zone_offset c.args.zone.now) same
]

pub returns-in-None-clause-steady : goal.returns-in-None-clause-steady
returns-in-None-clause-steady c = λ n from upto in_years year.
    zone_steady-none c.args.zone.now c.args.second n c.instant_of.result.nanosecond c.instant_of.ensures c.in-None.ensures from in_years
    year
