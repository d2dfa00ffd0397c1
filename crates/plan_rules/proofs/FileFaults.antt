-- What the text of a file says about its bytes: for `text_of`, and for `crontab` and `timer` at their last returns.
-- If there is a text, the bytes are not too large and are valid UTF-8 (`sound`). Then a call whose errors are of lines has
-- neither of these two errors, so both sides of the clauses `too_large` and `not_utf8` are false.
use Rattle.std.proofs.Common.{◌≡◌, ◌↔◌, ℕ, Bool, true, false, cond, List, Result, Ok, Err, IfErr, IsTrue, refl, sym, ◌∙◌, true≢false, arith}
use Rattle.std.proofs.lemmas.Bool.Decides.{nat_tests}
use Rattle.std.proofs.lemmas.Str.{IsUtf8-from_is_utf8, is_utf8-from_IsUtf8}
use Rattle.std.specs.Str.{IsUtf8, is_utf8}
use Rattle.plan_rules.specs.declared.line_fault.LineCause.TheVariants.{NotUtf8, TooLarge}
use Rattle.plan_rules.specs.declared.line_fault.LineFault.{LineFault}
use Rattle.plan_texts.proofs.Utf8Lemmas.{no_utf8}
use Rattle.plan_texts.specs.Lines.{is_too_large}
use Rattle.plan_rules.specs.FileText.{text_reading}
use Rattle.plan_rules.specs.LineFaults.{of_whole, on_line}
use Rattle.plan_rules.proofs.CrontabFaults.{IsOwnFault, no_other}

-- ---- from the bytes to the text

pub text_of_large : (bytes : List ℕ) → is_too_large bytes ≡ true → text_reading bytes ≡ Err (of_whole TooLarge)
text_of_large bytes large = rw large refl

pub text_of_utf8 : (bytes : List ℕ) → is_too_large bytes ≡ false → IsUtf8 bytes → text_reading bytes ≡ Ok bytes
text_of_utf8 bytes small utf8 = rw (small, is_utf8-from_IsUtf8 bytes utf8) refl

pub text_of_other :
    (bytes : List ℕ) → is_too_large bytes ≡ false → (IsUtf8 bytes → ⊥) → text_reading bytes ≡ Err (of_whole NotUtf8)
text_of_other bytes small other = rw (small, no_utf8 bytes other) refl

-- ---- from the text to the bytes

sound :
    (large utf8 : Bool) (bytes text : List ℕ) →
    Ok text ≡ on_line 0 (cond large (Err TooLarge) (cond utf8 (Ok bytes) (Err NotUtf8))) → (large ≡ false) × (utf8 ≡ true)
sound large utf8 bytes text is = grind (arith, nat_tests)

pub too_large :
    {A : Type 0} (answer : Result A LineFault) (bytes text : List ℕ) → Ok text ≡ text_reading bytes → IfErr answer IsOwnFault →
    (answer ≡ Err (of_whole TooLarge)) ↔ IsTrue (is_too_large bytes)
too_large answer bytes text read own = (
  λ is. absurd (no_other answer (of_whole TooLarge) own (λ no. no) is),
  λ large. absurd (true≢false (sym large ∙ (sound (is_too_large bytes) (is_utf8 bytes) bytes text read).0)),
)

pub not_utf8 :
    {A : Type 0} (answer : Result A LineFault) (bytes text : List ℕ) → Ok text ≡ text_reading bytes → IfErr answer IsOwnFault →
    (answer ≡ Err (of_whole NotUtf8)) ↔ ((is_too_large bytes ≡ false) × (is_utf8 bytes ≡ false))
not_utf8 answer bytes text read own = (
  λ is. absurd (no_other answer (of_whole NotUtf8) own (λ no. no) is),
  λ other. absurd (true≢false (sym (sound (is_too_large bytes) (is_utf8 bytes) bytes text read).1 ∙ other.1)),
)
