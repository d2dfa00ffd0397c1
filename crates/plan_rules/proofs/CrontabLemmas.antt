-- The command of a job, for `command`, and a crontab that is read line by line, for the loop of `jobs_of_lines`: the jobs so far
-- and the entries of the remaining lines together mean what all lines mean (`rest_reading`).
use Rattle.std.proofs.Common.{◌≡◌, ℕ, ◌+◌, ◌<◌, ◌≤◌, ◌==◌, true, false, List, [], ◌∷◌, ◌++◌, length, drop, get_or, map, Option, Some, Ok, Err, refl, ap, sym, ◌∙◌, append-nil}
use Rattle.std.proofs.lemmas.List.{append_assoc, drop_more, drop_all}
use Rattle.std.specs.List.{cons_option, enumerate_from, filter_map}
use Rattle.std.specs.Result.{result_ok}
use Rattle.plan_texts.specs.Steps.{◌>>=◌}
use Rattle.plan_rules.specs.declared.entry.Entry.{Entry}
use Rattle.plan_rules.specs.declared.line_fault.LineCause.TheVariants.{NoCommand}
use Rattle.plan_rules.specs.Crontab.{command_reading}
use Rattle.plan_rules.specs.LineFaults.{LineReading, TextReading, on_line}
use Rattle.plan_rules.specs.Entries.{given, fault_on, faults_of, unless_faulty}

-- a missing command, and another one
pub no_command : (text : List ℕ) → (length text == 0) ≡ true → command_reading text ≡ Err NoCommand
no_command text empty = rw empty refl

pub a_command : (text : List ℕ) → (length text == 0) ≡ false → command_reading text ≡ Ok text
a_command text some = rw some refl

-- what entries mean after these values
abbrev pub meant_after : {A : Type 0} → List A → List (Entry A) → TextReading (List A)
meant_after xs entries = unless_faulty (faults_of entries) (xs ++ given entries)

-- the jobs so far, and those of the lines from a place on
abbrev pub rest_reading : {A B : Type 0} → (ℕ × List ℕ → Option (Entry B)) → (A → List ℕ) → List B → List A → ℕ → TextReading (List B)
rest_reading f v jobs lines place = meant_after jobs (filter_map f (enumerate_from place (map v (drop place lines))))

first_entry :
    {B : Type 0} (number : ℕ) (read : LineReading B) (jobs : List B) (more : List (Entry B)) →
    unless_faulty (cons_option (fault_on number read) (faults_of more)) (jobs ++ cons_option (result_ok read) (given more))
    ≡ (on_line number read >>= λ job. meant_after (jobs ++ job ∷ []) more)
first_entry number (Ok job) jobs more = ap (unless_faulty (faults_of more)) (sym (append_assoc jobs (job ∷ []) (given more)))
first_entry number (Err cause) jobs more = refl

-- a line with an entry: it gives a job, or its error is that of the whole text
pub rest_entry :
    {A B : Type 0} (f : ℕ × List ℕ → Option (Entry B)) (v : A → List ℕ) (jobs : List B) (lines : List A) (place : ℕ) (d : A)
    (entry : Entry B) (read : TextReading B) → place < length lines → f (place, v (get_or lines place d)) ≡ Some entry →
    read ≡ on_line entry.line entry.read →
    rest_reading f v jobs lines place ≡ (read >>= λ job. rest_reading f v (jobs ++ job ∷ []) lines (place + 1))
rest_entry f v jobs lines place d entry read inside is said =
    let more = filter_map f (enumerate_from (place + 1) (map v (drop (place + 1) lines))) in
    ap (λ left. meant_after jobs (filter_map f (enumerate_from place (map v left)))) (drop_more lines place d inside)
    ∙ ap (λ here. meant_after jobs (cons_option here more)) is
    ∙ first_entry entry.line entry.read jobs more
    ∙ ap (λ r. r >>= λ job. meant_after (jobs ++ job ∷ []) more) (sym said)

-- all lines were read
pub rest_end :
    {A B : Type 0} (f : ℕ × List ℕ → Option (Entry B)) (v : A → List ℕ) (jobs : List B) (lines : List A) (place : ℕ) →
    length lines ≤ place → rest_reading f v jobs lines place ≡ Ok jobs
rest_end f v jobs lines place past =
    ap (λ left. meant_after jobs (filter_map f (enumerate_from place (map v left)))) (drop_all place lines past)
    ∙ ap Ok (append-nil jobs)
