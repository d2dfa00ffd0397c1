use Rattle.std.proofs.Common.{◌≡◌, drop}
use Rattle.plan_texts.specs.Text.{digits_after}
use Rattle.plan_spans.proofs.number.whole_number.Given as goal

-- the digits that are left complete the number
abbrev pub invariant-loop-digit : goal.invariant-loop-digit
invariant-loop-digit l = digits_after l.number (drop l.digit-index l.digits) ≡ digits_after 0 l.digits
