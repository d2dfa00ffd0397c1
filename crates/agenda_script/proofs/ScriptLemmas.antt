-- How the steps of a script are read, from the first line to the last.
-- For the loop of `read_steps`, whose invariant is `AreRead`, and for the two cases of `read_script`: bytes that are
-- UTF-8, and others. The lines are numbered from 2 on. A turn of the loop is a law of `each` on the line at its place.
use Rattle.std.proofs.Common.{◌≡◌, ℕ, ◌+◌, ◌<◌, ◌≤◌, List, [], ◌∷◌, ◌++◌, length, take, get_or, Ok, Err, refl, ap, ap₂, sym, ◌∙◌, arith, map, Bor, Bool, true, false, true≢false}
use Rattle.std.proofs.lemmas.List.{take_more, take_all, get_or-map, length-map}
use Rattle.std.proofs.lemmas.List.FromFn.{length-enumerate_from, get_or-enumerate_from}
use Rattle.std.proofs.lemmas.Str.{IsUtf8-from_is_utf8, is_utf8-from_IsUtf8}
use Rattle.std.specs.List.{enumerate_from}
use Rattle.std.specs.Str.{IsUtf8, is_utf8}
use Rattle.plan_texts.specs.Lines.{is_too_large, lines}
use Rattle.plan_mailbox.specs.declared.replies.Step.{Step}
use Rattle.plan_texts.specs.Steps.{each}
use Rattle.plan_texts.specs.EachLaws.{each-push, each-fault}
use Rattle.agenda_script.specs.declared.fault.ScriptFault.{ScriptFault}
use Rattle.agenda_script.specs.declared.fault.ScriptCause.TheVariants.{NotUtf8}
use Rattle.agenda_script.specs.Script.{fault_on, lines_reading, numbered_step, script_reading, step_on, steps_reading}

-- the first k lines, which have the numbers from 2 on, were read as these steps
pub record AreRead (lines : List (List ℕ)) (k : ℕ) (steps : List (Step (List ℕ))) : Type 0 where
  pub so_far : each numbered_step (take k (enumerate_from 2 lines)) ≡ Ok steps

-- the texts of some lines
abbrev pub texts : List (Bor (List ℕ)) → List (List ℕ)
texts lines = map (λ line. line.now) lines

-- the text of the line at a place
pub line_is :
    (lines : List (Bor (List ℕ))) (k : ℕ) (line : List ℕ) (other : Bor (List ℕ)) → k < length lines →
    line ≡ (get_or lines k other).now → line ≡ get_or (texts lines) k line
line_is lines k line other inside is = is ∙ sym (get_or-map (λ (l : Bor (List ℕ)). l.now) lines k other line inside)

pub inside_texts : (lines : List (Bor (List ℕ))) (k : ℕ) → k < length lines → k < length (texts lines)
inside_texts lines k inside =
    let e : length (texts lines) ≡ length lines = simp length-map in
    omega arith

pub past_texts : (lines : List (Bor (List ℕ))) (k : ℕ) → length lines ≤ k → length (texts lines) ≤ k
past_texts lines k past =
    let e : length (texts lines) ≡ length lines = simp length-map in
    omega arith

inside_all : (lines : List (List ℕ)) (k : ℕ) → k < length lines → k < length (enumerate_from 2 lines)
inside_all lines k inside = omega (arith, length-enumerate_from 2 lines)

found :
    (lines : List (List ℕ)) (k number : ℕ) (line : List ℕ) → k < length lines → line ≡ get_or lines k line → number ≡ k + 2 →
    get_or (enumerate_from 2 lines) k (number, line) ≡ (number, line)
found lines k number line inside is place =
    let n : 2 + k ≡ number = omega arith in
    get_or-enumerate_from 2 lines k (number, line) inside ∙ ap₂ (λ (a : ℕ) (b : List ℕ). (a, b)) n (sym is)

-- one more line was read
pub one_more_read :
    (lines : List (List ℕ)) (k number : ℕ) (line : List ℕ) (steps : List (Step (List ℕ))) (step : Step (List ℕ)) →
    k < length lines → line ≡ get_or lines k line → number ≡ k + 2 → AreRead lines k steps → step_on number line ≡ Ok step →
    AreRead lines (k + 1) (steps ++ step ∷ [])
one_more_read lines k number line steps step inside is place read here =
    let all = enumerate_from 2 lines in
    let within : k < length (enumerate_from 2 lines) = inside_all lines k inside in
    record {
      so_far = ap (each numbered_step)
          (take_more all k (number, line) within ∙ ap (λ x. take k all ++ x ∷ []) (found lines k number line inside is place))
          ∙ each-push numbered_step (take k all) steps (number, line) step read.so_far here;
    }

-- the next line is invalid
pub fault_read :
    (lines : List (List ℕ)) (k number : ℕ) (line : List ℕ) (steps : List (Step (List ℕ))) (fault : ScriptFault) → k < length lines →
    line ≡ get_or lines k line → number ≡ k + 2 → AreRead lines k steps → step_on number line ≡ Err fault →
    steps_reading lines ≡ Err fault
fault_read lines k number line steps fault inside is place read here =
    each-fault numbered_step (enumerate_from 2 lines) k steps (number, line) fault (inside_all lines k inside)
    (sym (found lines k number line inside is place)) read.so_far here

-- all lines were read
pub all_read :
    (lines : List (List ℕ)) (k : ℕ) (steps : List (Step (List ℕ))) → length lines ≤ k → AreRead lines k steps →
    steps_reading lines ≡ Ok steps
all_read lines k steps past read =
    let whole : length (enumerate_from 2 lines) ≤ k = omega (arith, length-enumerate_from 2 lines) in
    ap (each numbered_step) (sym (take_all k (enumerate_from 2 lines) whole)) ∙ read.so_far

-- bytes that are not UTF-8
pub no_text_read : (bytes : List ℕ) → is_too_large bytes ≡ false → ¬ (IsUtf8 bytes) → script_reading bytes ≡ fault_on 0 NotUtf8
unfolding script_reading
no_text_read bytes few isnt_text = go (is_utf8 bytes) refl
  where
    go : (b : Bool) → is_utf8 bytes ≡ b → script_reading bytes ≡ fault_on 0 NotUtf8
    go true is = absurd (isnt_text (IsUtf8-from_is_utf8 bytes is))
    go false is = rw (few, is) refl

-- bytes that are UTF-8 are read by their lines
pub text_read : (bytes : List ℕ) → is_too_large bytes ≡ false → IsUtf8 bytes → script_reading bytes ≡ lines_reading (lines bytes)
unfolding script_reading
text_read bytes few text = rw (few, is_utf8-from_IsUtf8 bytes text) refl

-- bytes can't be both UTF-8 and not
pub is_text : (bytes : List ℕ) → IsUtf8 bytes → is_utf8 bytes ≡ false → ⊥
is_text bytes text none = true≢false (sym (is_utf8-from_IsUtf8 bytes text) ∙ none)
