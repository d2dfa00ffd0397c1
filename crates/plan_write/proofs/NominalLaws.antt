-- Without delays, what is between the windows of an agenda is between its neighbouring marks, since the agenda ascends: by
-- induction over the seconds of the span, and in each row over the rules.
use Rattle.std.proofs.Common.{◌≡◌, ℕ, zero, suc, ◌+◌, ◌-◌, ◌≤◌, List, [], ◌∷◌, ◌++◌, map, refl, inl, inr, arith, lt-ltb}
use Rattle.std.specs.Prelude.{nat_le, slice_get}
use Rattle.std.specs.List.{range_with_len, flat_map}
use Rattle.std.proofs.Math.Bool.{and-false}
use Rattle.std.proofs.lemmas.Bool.{cases_Bool}
use Rattle.std.proofs.lemmas.Bool.Decides.{nat_tests}
use Rattle.plan_match.specs.declared.rule.Rule.{Rule}
use Rattle.plan_next.specs.Starts.{is_start}
use Rattle.plan_rules.specs.Delays.{nominal}
use Rattle.plan_rules.specs.Job.{JobParts}
use Rattle.plan_collect.specs.Agenda.{agenda, row_from}
use Rattle.plan_write.specs.Quiet.{between, delay_of, is_gap, marks, pairs_from, window_of, NominalGapsAreOfMarks}

-- each entry is at this second or later, and at or after the one before it
abbrev AscendsFrom : (second : ℕ) → List (ℕ × ℕ) → Type 0
AscendsFrom second [] = Unit {0}
AscendsFrom second (entry ∷ later) = (second ≤ entry.0) × AscendsFrom entry.0 later

-- a row before later entries, which begins at a second or later
row_ascends :
    (rules : List Rule) (from n job : ℕ) (rest : List (ℕ × ℕ)) → from ≤ n →
    ((second : ℕ) → second ≤ n → AscendsFrom second rest) → AscendsFrom from (row_from job rules n ++ rest)
row_ascends [] from n job rest low later = later from low
row_ascends (rule ∷ rules) from n job rest low later = elim (cases_Bool (is_start rule n)) [
  | inl is ↦ rw is (low, row_ascends rules n n (job + 1) rest (omega arith) later)
  | inr not ↦ rw not (row_ascends rules from n (job + 1) rest low later)
]

rows_ascend :
    (rules : List Rule) (seconds from n : ℕ) → from ≤ n → AscendsFrom from (flat_map (row_from 0 rules) (range_with_len n seconds))
rows_ascend rules zero from n low = tt
rows_ascend rules (suc seconds) from n low =
    row_ascends rules from n 0 (flat_map (row_from 0 rules) (range_with_len (n + 1) seconds)) low
    (λ second at. rows_ascend rules seconds second (n + 1) (omega (arith, at)))

no_delay : (jobs : List JobParts) (number : ℕ) → delay_of (slice_get (map nominal jobs) number) ≡ 0
no_delay [] number = refl
no_delay (job ∷ jobs) zero = refl
no_delay (job ∷ jobs) (suc number) = no_delay jobs number

-- where entries ascend and no job has a delay, each entry is the mark from which the next pair goes
pairs_of_marks :
    (jobs : List JobParts) (upto mark : ℕ) (entries : List (ℕ × ℕ)) → AscendsFrom mark entries →
    between mark upto (map (window_of (map nominal jobs)) entries) ≡ pairs_from mark (marks entries upto)
pairs_of_marks jobs upto mark [] up = refl
pairs_of_marks jobs upto mark (entry ∷ entries) (low, up) = grind (arith, nat_tests, no_delay, pairs_of_marks jobs upto entry.0 entries up)

-- a pair that is long enough is a gap
same_test : (least : ℕ) (pair : ℕ × ℕ) → 1 ≤ least → is_gap least pair ≡ nat_le least (pair.1 - pair.0)
same_test least pair some = grind (arith, nat_tests, cases_Bool, lt-ltb, and-false)

pub of_marks : NominalGapsAreOfMarks
unfolding agenda
of_marks jobs span least some = grind (arith, nat_tests, pairs_of_marks, rows_ascend, same_test)
