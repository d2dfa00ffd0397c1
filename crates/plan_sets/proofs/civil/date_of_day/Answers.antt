-- The epoch has the day number 0.
use Rattle.std.proofs.Common.{arith, pos, to_z, w64, ◌≡◌, ◌+ℤ◌}
use Rattle.std.proofs.lemmas.Result.{IfOk-at_ok}
use Rattle.jiff_core.specs.Date.{epoch_day}
use Rattle.jiff_core.specs.declared.civil.date.Date.{Date}
use Rattle.jiff_core.proofs.SignedLemmas.{signed_casts}
use Rattle.plan_sets.proofs.CivilLemmas.{epoch_day-epoch}
use Rattle.plan_sets.proofs.civil.date_of_day.Goals as goal

pub unwrap-requires : goal.unwrap-requires
unwrap-requires c =
    let zero = epoch_day-epoch c.date.result c.date.ensures in
    c.checked_add.ensures.succeeds.1 (rw c.to_plain-epoch.ensures (rw zero (omega (arith, signed_casts))))

pub returns : goal.returns
returns c =
    let zero : epoch_day c.to_plain-epoch.result ≡ pos 0 = rw c.to_plain-epoch.ensures (epoch_day-epoch c.date.result c.date.ensures) in
    let later = λ (d : Date). epoch_day d ≡ epoch_day c.to_plain-epoch.result +ℤ to_z w64 c.args.day in
    let e = IfOk-at_ok later c.unwrap.ensures c.checked_add.ensures.value in
    omega (arith, signed_casts, e)
