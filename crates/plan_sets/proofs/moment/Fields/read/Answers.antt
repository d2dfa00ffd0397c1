-- Each pair of bytes is the digits of its number, and the separators were checked.
use Rattle.std.proofs.Common.{◌≡◌, ℕ, arith, get_or, length}
use Rattle.std.specs.List.{between}
use Rattle.std.proofs.lemmas.List.Edits.{get_or-between}
use Rattle.std.proofs.lemmas.Slice.Eq.{text_from_reads}
use Rattle.plan_sets.proofs.MomentLemmas.{AreDigits, AreDigits-two_digits}
use Rattle.plan_sets.proofs.moment.Fields.read.Goals as goal

pub returns-clause-some : goal.returns-clause-some
returns-clause-some c =
    let text = c.args.text.now in
    let century = AreDigits-two_digits _ _ _ c.in_ok-number.ensures.value in
    let year = AreDigits-two_digits _ _ _ c.in_ok-number-2.ensures.value in
    let month : AreDigits (get_or text 5 0) (get_or text 6 0) c.in_ok-number-3.field-0 =
    AreDigits-two_digits _ _ _ c.in_ok-number-3.ensures.value in
    let day : AreDigits (get_or text 8 0) (get_or text 9 0) c.in_ok-number-4.field-0 =
    AreDigits-two_digits _ _ _ c.in_ok-number-4.ensures.value in
    let long : length text ≡ 20 = omega arith in
    let time = between 10 (length text) text in
    let hour : AreDigits (get_or time 1 0) (get_or time 2 0) c.in_ok-number-5.field-0 =
    AreDigits-two_digits _ _ _ c.in_ok-number-5.ensures.value in
    let minute : AreDigits (get_or time 4 0) (get_or time 5 0) c.in_ok-number-6.field-0 =
    AreDigits-two_digits _ _ _ c.in_ok-number-6.ensures.value in
    let second : AreDigits (get_or time 7 0) (get_or time 8 0) c.in_ok-number-7.field-0 =
    AreDigits-two_digits _ _ _ c.in_ok-number-7.ensures.value in
    record {
      room = omega arith;
      text_is = text_from_reads c.args.text.now _ (omega arith) (omega (arith, get_or-between {X = ℕ}));
    }
