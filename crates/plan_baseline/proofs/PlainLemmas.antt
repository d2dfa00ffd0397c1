-- The texts of times are ASCII, and contain no tab and no newline.
use Rattle.std.proofs.Common.{◌≡◌, ℕ, zero, suc, ◌<◌, ◌≤◌, ◌==◌, ◌||◌, false, ℤ, pos, negsuc, nat_abs, List, [], ◌∷◌, ◌++◌, take, ap, arith, inl, inr, refl, subst, sym, ◌∙◌}
use Rattle.std.proofs.lemmas.Bool.Decides.{nat_tests}
use Rattle.std.proofs.lemmas.Str.{IsUtf8-from_ascii}
use Rattle.std.specs.Str.{IsAscii, IsUtf8}
use Rattle.plan_sets.specs.Civil.{civil_fields}
use Rattle.plan_sets.specs.Limits.{end_second}
use Rattle.plan_sets.specs.Moment.{HasRoom, Written, moment_text_of, written_of, written_text}
use Rattle.plan_sets.proofs.MomentLemmas.{Says-moment_text_of}
use Rattle.plan_write.specs.LocalTimes.{date_time, offset_text}
use Rattle.plan_texts.specs.Text.{cut_at}
use Rattle.plan_baseline.specs.ReadBack.{HasNone}
use Rattle.plan_baseline.specs.Reading.{BeginsWithTime}
use Rattle.plan_baseline.specs.Times.{IsTimeOf}
use Rattle.plan_baseline.proofs.CutLemmas.{cut_first}

-- each byte is from `+` to `Z`
abbrev pub Plain : List ℕ → Type 0
Plain [] = Unit {0}
Plain (b ∷ bytes) = (43 ≤ b) × (b < 91) × Plain bytes

plain_ascii : (bytes : List ℕ) → Plain bytes → IsAscii bytes
plain_ascii [] plain i = omega arith
plain_ascii (b ∷ bytes) plain zero = omega (arith, plain.1)
plain_ascii (b ∷ bytes) plain (suc i) = plain_ascii bytes plain.2 i

pub plain_utf8 : (bytes : List ℕ) → Plain bytes → IsUtf8 bytes
plain_utf8 bytes plain = IsUtf8-from_ascii bytes (plain_ascii bytes plain)

written_plain : (w : Written) → HasRoom w → Plain (written_text w)
written_plain w room = grind (arith, nat_tests)

pub moment_plain : (n : ℕ) → n ≤ end_second → Plain (moment_text_of n)
moment_plain n years =
    let says = Says-moment_text_of (moment_text_of n) n years refl in
    subst Plain (sym says.text_is) (written_plain (written_of (civil_fields n)) says.room)

pub plain_none : (byte : ℕ) (bytes : List ℕ) → byte < 43 → Plain bytes → HasNone byte bytes
plain_none byte [] low plain = refl
plain_none byte (b ∷ bytes) low plain =
    let here : (b == byte) ≡ false = (let from = plain.0 in grind (arith, nat_tests)) in
    λ i. here i || plain_none byte bytes low plain.2 i

take_plain : (k : ℕ) (bytes : List ℕ) → Plain bytes → Plain (take k bytes)
take_plain zero bytes plain = tt
take_plain (suc k) [] plain = tt
take_plain (suc k) (b ∷ bytes) plain = (plain.0, plain.1, take_plain k bytes plain.2)

append_plain : (a b : List ℕ) → Plain a → Plain b → Plain (a ++ b)
append_plain [] b first second = second
append_plain (x ∷ a) b first second = (first.0, first.1, append_plain a b first.2 second)

offset_plain : (offset : ℤ) → nat_abs offset < 360000 → Plain (offset_text offset)
offset_plain (pos n) near = grind (arith, nat_tests)
offset_plain (negsuc n) near = grind (arith, nat_tests)

-- the text of a time
pub time_plain : (text : List ℕ) (n : ℕ) → IsTimeOf text n → Plain text
time_plain text n (years, inl utc) = subst Plain (sym utc) (moment_plain n years)
time_plain text n (years, inr local) =
    subst Plain (sym local.text_is)
    (append_plain (date_time local.shown) (offset_text local.offset)
    (take_plain 19 (moment_text_of local.shown) (moment_plain local.shown local.years)) (offset_plain local.offset local.near))

-- a line that starts with the text of a time and a tab has that time as its first column
pub begins_with_time :
    (line time rest : List ℕ) (second : ℕ) → line ≡ time ++ 9 ∷ rest → IsTimeOf time second → BeginsWithTime line second rest
begins_with_time line time rest second whole is = (
  time,
  ap (cut_at (9 ∷ [])) whole ∙ cut_first 9 time rest (plain_none 9 time (omega arith) (time_plain time second is)),
  is,
)
