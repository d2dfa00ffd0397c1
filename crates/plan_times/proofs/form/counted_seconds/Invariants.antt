use Rattle.std.proofs.Common.{◌≡◌, ◌+◌, min, take}
use Rattle.plan_sets.specs.Limits.{end_second}
use Rattle.plan_texts.specs.Text.{digits_after}
use Rattle.plan_times.proofs.form.counted_seconds.Given as goal

-- the number of the digits so far, capped
abbrev pub invariant-loop-digit : goal.invariant-loop-digit
invariant-loop-digit l = l.number ≡ min (digits_after 0 (take l.digit-index l.digits)) (end_second + 1)
