-- The findings of lines, one after the other: for `add_line` and the loop of `add_lines`. What was found so far, with what
-- the remaining lines add to it, is what is found in all lines.
use Rattle.std.proofs.Common.{◌≡◌, Bool, ℕ, ◌+◌, ◌<◌, ◌≤◌, List, [], ◌∷◌, ◌++◌, Option, length, drop, get_or, map, ap, sym, ◌∙◌}
use Rattle.std.proofs.lemmas.List.{append_assoc, drop_more, drop_all}
use Rattle.std.specs.List.{enumerate_from}
use Rattle.plan_rules.specs.declared.crontabs.Kind.{Kind}
use Rattle.plan_rules.specs.Crontab.{line_reading}
use Rattle.plan_check.specs.declared.finding.Finding.{Finding}
use Rattle.plan_check.specs.CronWarnings.{is_first}
use Rattle.plan_check.specs.Crontabs.{after_line, after_lines, line_findings, lines_findings}
use Rattle.plan_check.specs.Known.{KnownJobs}

-- the lines from a place on, with their positions
abbrev pub lines_left : {A : Type 0} → (A → List ℕ) → List A → ℕ → List (ℕ × List ℕ)
lines_left v lines place = enumerate_from place (map v (drop place lines))

left_more :
    {A : Type 0} (v : A → List ℕ) (lines : List A) (place : ℕ) (d : A) → place < length lines →
    lines_left v lines place ≡ (place, v (get_or lines place d)) ∷ lines_left v lines (place + 1)
left_more v lines place d inside = ap (λ left. enumerate_from place (map v left)) (drop_more lines place d inside)

-- one more line
pub found_more :
    {A : Type 0} (known next_known : KnownJobs) (label : List ℕ) (kind : Kind) (beyond : Option ℕ) (v : A → List ℕ) (lines : List A)
    (place : ℕ) (d : A) (is_beyond : Bool) (found next whole : List Finding) → place < length lines →
    is_beyond ≡ is_first beyond (place + 1) →
    next ≡ found
    ++ line_findings known kind is_beyond (place + 1) (v (get_or lines place d))
    (line_reading label kind (place + 1) (v (get_or lines place d))) →
    next_known ≡ after_line known (line_reading label kind (place + 1) (v (get_or lines place d))) →
    found ++ lines_findings known label kind beyond (lines_left v lines place) ≡ whole →
    next ++ lines_findings next_known label kind beyond (lines_left v lines (place + 1)) ≡ whole
found_more known next_known label kind beyond v lines place d is_beyond found next whole inside is_so is after so_far =
    let text = v (get_or lines place d) in
    let read = line_reading label kind (place + 1) text in
    let more = lines_left v lines (place + 1) in
    (λ i. (is ∙ ap (λ b. found ++ line_findings known kind b (place + 1) text read) is_so) i
    ++ lines_findings (after i) label kind beyond more)
    ∙ append_assoc found (line_findings known kind (is_first beyond (place + 1)) (place + 1) text read)
    (lines_findings (after_line known read) label kind beyond more)
    ∙ ap (λ left. found ++ left) (sym (ap (lines_findings known label kind beyond) (left_more v lines place d inside)))
    ∙ so_far

pub known_more :
    {A : Type 0} (known next_known : KnownJobs) (label : List ℕ) (kind : Kind) (v : A → List ℕ) (lines : List A) (place : ℕ)
    (d : A) (whole : KnownJobs) → place < length lines →
    next_known ≡ after_line known (line_reading label kind (place + 1) (v (get_or lines place d))) →
    after_lines known label kind (lines_left v lines place) ≡ whole →
    after_lines next_known label kind (lines_left v lines (place + 1)) ≡ whole
known_more known next_known label kind v lines place d whole inside after so_far =
    ap (λ (k : KnownJobs). after_lines k label kind (lines_left v lines (place + 1))) after
    ∙ sym (ap (after_lines known label kind) (left_more v lines place d inside))
    ∙ so_far

-- after the last line
pub none_left :
    {A : Type 0} (v : A → List ℕ) (lines : List A) (place : ℕ) → length lines ≤ place → lines_left v lines place ≡ []
none_left v lines place past = ap (λ left. enumerate_from place (map v left)) (drop_all place lines past)
