-- A text says only one date and time, so it is the text of a second exactly if that date and time has its number.
-- Answers the clauses `ok` and `accepted` of `read_moment`. If the code rejects the text, `accepted` holds, since the text of a
-- second has the form, a date of the calendar and a number from 0 to the end (`Says-second`).
use Rattle.std.proofs.Common.{FitsSigned, ◌∙◌, ◌≡◌, Ok, ap, arith, pos, sym, w64}
use Rattle.std.specs.Bool.{⊤}
use Rattle.std.proofs.lemmas.Bool.{false≢true}
use Rattle.std.proofs.lemmas.Option.{MatchOption-at_none, MatchOption-at_some}
use Rattle.jiff_core.proofs.SignedLemmas.{signed_arith}
use Rattle.plan_sets.specs.Civil.{civil_fields}
use Rattle.plan_sets.specs.Moment.{written_second, written_fields, written_of, Says, Written}
use Rattle.plan_sets.proofs.CivilLemmas.{second_number-fits, IsCast-second}
use Rattle.plan_sets.proofs.MomentLemmas.{moment_text_of-number, Says-moment_text_of, Says-second}
use Rattle.plan_sets.proofs.moment.read_moment.Goals as goal
use Rattle.plan_sets.proofs.moment.read_moment.Goals.{then-number-lt0-via-else-number-lt0+then-number, then-number-lt0-via-then-number-lt0}

pub returns-in_err-fields-clause-accepted : goal.returns-in_err-fields-clause-accepted
returns-in_err-fields-clause-accepted c = λ n h e.
    let text = c.as_bytes.result.now in
    let none = MatchOption-at_none ((w : Written) → ¬ (Says text w)) (λ _. ⊤) c.in_err-fields.ensures.ok_part c.read.ensures.none in
    absurd (none (written_of (civil_fields n)) (Says-moment_text_of text n h (c.as_bytes.ensures.value ∙ e)))

pub returns-in_err-number-clause-accepted : goal.returns-in_err-number-clause-accepted
returns-in_err-number-clause-accepted c = λ n h e.
    let text = c.as_bytes.result.now in
    let says = MatchOption-at_some ⊤ (λ f. Says text (written_fields f)) c.in_ok-fields.fields c.in_ok-fields.ensures.ok_part
    c.read.ensures.some in
    let found = Says-second text n (written_fields c.in_ok-fields.fields) h (c.as_bytes.ensures.value ∙ e) says in
    absurd (false≢true (c.in_err-number.ensures.variant ∙ c.second.ensures.some.1 found.0))

pub returns-then-number-lt0-clause-accepted : goal.returns-then-number-lt0-clause-accepted
returns-then-number-lt0-clause-accepted c = λ n h e.
    let text = c.as_bytes.result.now in
    let w = written_fields c.in_ok-fields.fields in
    let says = MatchOption-at_some ⊤ (λ f. Says text (written_fields f)) c.in_ok-fields.fields c.in_ok-fields.ensures.ok_part
    c.read.ensures.some in
    let found = Says-second text n w h (c.as_bytes.ensures.value ∙ e) says in
    let number = MatchOption-at_some ⊤ (λ z. z ≡ written_second w) c.in_ok-number.number c.in_ok-number.ensures.ok_part
    c.second.ensures.number in
    let same : c.in_ok-number.number ≡ pos n = number ∙ found.1 in
    elim c.then-number-lt0.branch [
      | then-number-lt0-via-then-number-lt0 b ↦ absurd (omega (arith, signed_arith))
      | then-number-lt0-via-else-number-lt0+then-number b ↦ absurd (omega (arith, signed_arith))
    ]

pub returns-clause-ok : goal.returns-clause-ok
returns-clause-ok c =
    let text = c.as_bytes.result.now in
    let w = written_fields c.in_ok-fields.fields in
    let says = MatchOption-at_some ⊤ (λ f. Says text (written_fields f)) c.in_ok-fields.fields c.in_ok-fields.ensures.ok_part
    c.read.ensures.some in
    let number = MatchOption-at_some ⊤ (λ z. z ≡ written_second w) c.in_ok-number.number c.in_ok-number.ensures.ok_part
    c.second.ensures.number in
    let exists = c.second.ensures.some.0 (sym c.in_ok-number.ensures.variant) in
    let fits : FitsSigned w64 c.in_ok-number.number = rw number (second_number-fits _ _ _ _ _ _ exists) in
    let k = IsCast-second c.in_ok-number.number (omega (arith, signed_arith)) (omega (arith, signed_arith)) in
    (k.fits, sym c.as_bytes.ensures.value ∙ moment_text_of-number text _ w k.fits says exists (k.same ∙ number))

pub returns-clause-accepted : goal.returns-clause-accepted
returns-clause-accepted c = λ n h e.
    let text = c.as_bytes.result.now in
    let w = written_fields c.in_ok-fields.fields in
    let says = MatchOption-at_some ⊤ (λ f. Says text (written_fields f)) c.in_ok-fields.fields c.in_ok-fields.ensures.ok_part
    c.read.ensures.some in
    let found = Says-second text n w h (c.as_bytes.ensures.value ∙ e) says in
    let number = MatchOption-at_some ⊤ (λ z. z ≡ written_second w) c.in_ok-number.number c.in_ok-number.ensures.ok_part
    c.second.ensures.number in
    let fits : FitsSigned w64 c.in_ok-number.number = rw number (second_number-fits _ _ _ _ _ _ found.0) in
    let k = IsCast-second c.in_ok-number.number (omega (arith, signed_arith)) (omega (arith, signed_arith)) in
    let same = k.same ∙ number ∙ found.1 in
    ap (λ v. Ok v) (omega (arith, signed_arith))
