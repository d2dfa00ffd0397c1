-- What follows the times of the lines of a text.
use Rattle.std.specs.Prelude.{◌≡◌, ℕ, ◌<◌, ◌≤◌, ◌-◌, List, ◌∷◌, ◌++◌, Option, None, Some, IsUtf8, length, slice_index_or}
use Rattle.plan_baseline.specs.declared.tails.Tail.{Tail}
use Rattle.plan_baseline.specs.Line.{no_tail, part}
use Rattle.plan_baseline.specs.ReadBack.{HasNone}

-- a text can follow the time of a line and a tab: the name of a job, a tab, and what the job runs, in UTF-8 and without a
-- newline (agenda)
pub record IsRest (rest job runs : List ℕ) : Type 0 where
  pub whole : rest ≡ job ++ 9 ∷ runs
  pub tab : HasNone 9 job
  pub newline : HasNone 10 rest
  pub utf8 : IsUtf8 rest

-- a text begins with that and a newline, and this follows
abbrev pub BeginsWithRest : (text job runs after : List ℕ) → Type 0
BeginsWithRest text job runs after = (rest : List ℕ) × (text ≡ rest ++ 10 ∷ after) × IsRest rest job runs

-- a text ends with another one
abbrev pub IsEnd : (text rest : List ℕ) → Type 0
IsEnd text rest = (front : List ℕ) × (text ≡ front ++ rest)

-- a tail is in a text, before its last byte, and can follow the time of a line and a tab
pub record IsTail (text : List ℕ) (tail : Tail) : Type 0 where
  pub job_inside : tail.job < tail.runs
  pub runs_inside : tail.runs ≤ tail.end
  pub end_inside : tail.end < length text
  pub rest : IsRest (part tail.job tail.end text) (part tail.job (tail.runs - 1) text) (part tail.runs tail.end text)

-- what follows the time of a line is the same as a tail of a text, and this follows its newline
abbrev pub BeginsWithTail : (text : List ℕ) → Tail → (rest after : List ℕ) → Type 0
BeginsWithTail text tail rest after = BeginsWithRest rest (part tail.job (tail.runs - 1) text) (part tail.runs tail.end text) after

-- what is read after the time of a line: the number of the tail of a text that is the same, and what follows its newline;
-- nothing if no tail is there
abbrev pub IsTailRead : (text : List ℕ) → (tails : List Tail) → (rest : List ℕ) → Option (ℕ × List ℕ) → Type 0
IsTailRead text tails rest None = (job runs after : List ℕ) → ¬ BeginsWithRest rest job runs after
IsTailRead text tails rest (Some (number, after)) =
    (number < length tails) × BeginsWithTail text (slice_index_or tails number no_tail) rest after
