-- The lines of a timer file, read one after the other: for loops that feed a `TimerReader`.
use Rattle.std.proofs.Common.{◌≡◌, ℕ, ◌+◌, ◌<◌, Bool, false, ◌||◌, List, ◌∷◌, length, drop, get_or, map, Ok, ap, sym, ◌∙◌}
use Rattle.std.proofs.Math.Bool.{or_assoc}
use Rattle.std.proofs.lemmas.List.{drop_more}
use Rattle.plan_texts.specs.Steps.{◌>>=◌}
use Rattle.plan_texts.specs.WholeLines.{whole_lines, trimmed}
use Rattle.plan_rules.specs.LineFaults.{TextReading}
use Rattle.plan_rules.specs.FileText.{text_reading}
use Rattle.plan_rules.specs.Timer.{effects_from, has_timer, inside_after, section_name}
use Rattle.plan_rules.specs.TimerEntries.{EventCount, TimerState, count_from, state_after, timer_lines}

-- the remaining lines begin with the next one
pub lines_more :
    {A : Type 0} (v : A → ℕ × List ℕ) (lines : List A) (place : ℕ) (line : A) → place < length lines → line ≡ get_or lines place line →
    map v (drop place lines) ≡ v line ∷ map v (drop (place + 1) lines)
lines_more v lines place line inside is =
    ap (map v) (drop_more lines place line inside ∙ ap (λ first. first ∷ drop (place + 1) lines) (sym is))

-- whether there is a section
pub section_step :
    (state after : TimerState) (line : ℕ × List ℕ) (more : List (ℕ × List ℕ)) (whole : Bool) → after ≡ state_after state line.1 →
    (state.found || has_timer (line ∷ more)) ≡ whole → (after.found || has_timer more) ≡ whole
section_step state after line more whole after_is so_far =
    ap (λ (s : TimerState). s.found || has_timer more) after_is
    ∙ or_assoc state.found (inside_after false (section_name line.1)) (has_timer more)
    ∙ so_far

-- the number of events in the list
pub count_step :
    (state after : TimerState) (line : ℕ × List ℕ) (more : List (ℕ × List ℕ)) (whole : EventCount) → after ≡ state_after state line.1 →
    count_from state.count (effects_from state.inside (line ∷ more)) ≡ whole →
    count_from after.count (effects_from after.inside more) ≡ whole
count_step state after line more whole after_is so_far =
    ap (λ (s : TimerState). count_from s.count (effects_from s.inside more)) after_is ∙ so_far

-- the whole lines of a file, by its text
pub lines_of_file :
    (bytes text : List ℕ) (lines : List (ℕ × List ℕ)) → Ok text ≡ text_reading bytes →
    lines ≡ map {B = ℕ × List ℕ} (λ line. (line.0, trimmed line.1)) (whole_lines text) → timer_lines bytes ≡ Ok lines
lines_of_file bytes text lines read is =
    ap (λ (t : TextReading (List ℕ)). t >>= λ found. Ok (map (λ line. (line.0, trimmed line.1)) (whole_lines found))) (sym read)
    ∙ ap Ok (sym is)
