-- The date that jiff makes has the given year, month and day.
-- Answers the clause `some` of `day_number`, both if jiff rejects the date and if it makes one. A cast that succeeds keeps its
-- number. So jiff accepts every date of the calendar, and every date that it makes is one.
use Rattle.std.proofs.Common.{◌≡◌, Err, Ok, Result, Some, sym, ap, of_z, refl, to_z, to_z-of_z, w16, w8, ◌∙◌}
use Rattle.std.specs.Result.{result_ok}
use Rattle.std.proofs.lemmas.Option.{none-some, same_Some}
use Rattle.std.proofs.lemmas.Result.{IfOk-at_ok, OkIff-at_ok}
use Rattle.jiff_core.specs.Date.{IsYmd}
use Rattle.plan_sets.proofs.CivilLemmas.{IsCivilDate-date}
use Rattle.plan_sets.proofs.civil.day_number.Goals as goal

-- the value that `ok` kept was the value of an `Ok`
Ok-from_result_ok : {T E : Type 0} → (r : Result T E) (x : T) → Some x ≡ result_ok r → r ≡ Ok x
Ok-from_result_ok (Ok y) x e = ap (λ v. Ok v) (same_Some _ _ (sym e))
Ok-from_result_ok (Err y) x e = absurd (none-some x (sym e))

pub returns-clause-some : goal.returns-clause-some
returns-clause-some c =
    let year = OkIff-at_ok _ _ _ _ c.try_from.ensures (Ok-from_result_ok _ _ c.in_ok-year.ensures.value) in
    let month = OkIff-at_ok _ _ _ _ c.try_from-2.ensures (Ok-from_result_ok _ _ c.in_ok-month.ensures.value) in
    let day = OkIff-at_ok _ _ _ _ c.try_from-3.ensures (Ok-from_result_ok _ _ c.in_ok-day.ensures.value) in
    let made = IfOk-at_ok (IsYmd _ _ _) (Ok-from_result_ok _ _ c.in_ok-date.ensures.value) c.new.ensures.value in (
      λ _. IsCivilDate-date c.in_ok-date.date c.args.year c.args.month c.args.day (
        made.0 ∙ ap (λ z. to_z w16 (of_z w16 z)) year.1 ∙ to_z-of_z year.0,
        made.1 ∙ ap (λ z. to_z w8 (of_z w8 z)) month.1 ∙ to_z-of_z month.0,
        made.2 ∙ ap (λ z. to_z w8 (of_z w8 z)) day.1 ∙ to_z-of_z day.0,
      ),
      λ _. refl,
    )
