use Rattle.std.proofs.Common.{◌≡◌, ◌+◌, ◌/◌, ◌^◌, ◌≤◌, drop}
use Rattle.plan_spans.specs.Spans.{fraction_from, fraction_micros}
use Rattle.plan_spans.proofs.number.fraction_micros.Given as goal

-- the part of the unit that the last digit counted, and what the digits that are left add
abbrev pub invariant-loop-digit : goal.invariant-loop-digit
invariant-loop-digit l = record {
  part : l.part ≡ l.unit / 10 ^ l.digit-index;
  left : l.sum + fraction_from l.unit (l.digit-index + 1) (drop l.digit-index l.digits) ≡ fraction_micros l.unit l.digits;
  small : l.sum + l.part ≤ l.unit;
}
