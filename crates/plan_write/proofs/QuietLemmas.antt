-- The text of gaps, pair by pair: for the loop of `write_quiet`. The loop's reach is at most the end of the planner's years,
-- which changes no line: no pair ends later.
use Rattle.std.proofs.Common.{◌≡◌, ℕ, zero, suc, ◌+◌, ◌<◌, ◌≤◌, min, max, List, [], ◌∷◌, ◌++◌, length, drop, get_or, map, ap, sym, ◌∙◌, arith, append_assoc, le-ltb}
use Rattle.std.specs.Prelude.{filter, slice_get}
use Rattle.std.specs.List.{flat_map}
use Rattle.std.proofs.lemmas.Bool.{cases_Bool, cases_lt, and_parts, ltb-true}
use Rattle.std.proofs.lemmas.List.{drop_more}
use Rattle.plan_sets.specs.Limits.{end_second}
use Rattle.plan_rules.specs.Job.{JobParts}
use Rattle.plan_collect.specs.Agenda.{IsInYears}
use Rattle.plan_collect.specs.Windows.{latest_start}
use Rattle.plan_write.specs.declared.formats.Format.{Format}
use Rattle.plan_write.specs.Quiet.{between, delay_of, is_gap, gap_line, line_of_gap, window_of}
use Rattle.std.proofs.lemmas.Bool.Decides.{nat_tests}

-- the text of the gaps that are left, of entries after a reach
abbrev pub text_left : (format : Format) (least : ℕ) → List JobParts → (reach upto : ℕ) → List (ℕ × ℕ) → List ℕ
text_left format least jobs reach upto entries = flat_map (gap_line format) (filter (is_gap least) (between reach upto (map
    (window_of jobs) entries)))

first_pair :
    (format : Format) (least : ℕ) (pair : ℕ × ℕ) (later : List (ℕ × ℕ)) →
    flat_map (gap_line format) (filter (is_gap least) (pair ∷ later)) ≡ line_of_gap format least pair
    ++ flat_map (gap_line format) (filter (is_gap least) later)
first_pair format least pair later = grind (arith, nat_tests, cases_Bool)

-- two reaches that are the same in the planner's years
same_line :
    (format : Format) (least reach other to : ℕ) → min reach end_second ≡ min other end_second → to ≤ end_second →
    line_of_gap format least (reach, to) ≡ line_of_gap format least (other, to)
same_line format least reach other to same years = grind (arith, nat_tests, cases_lt, le-ltb)

-- the first entry is in the planner's years, and so are the others
pub first_in_years :
    (entry : ℕ × ℕ) (entries : List (ℕ × ℕ)) → IsInYears (entry ∷ entries) → (entry.0 < end_second) × IsInYears entries
first_in_years entry entries all = grind (arith, nat_tests, and_parts, ltb-true)

same_left :
    (format : Format) (least : ℕ) (jobs : List JobParts) (reach other upto : ℕ) (entries : List (ℕ × ℕ)) →
    min reach end_second ≡ min other end_second →
    upto ≤ end_second → IsInYears entries → text_left format least jobs reach upto entries ≡ text_left format least jobs other upto entries
same_left format least jobs reach other upto [] same end years = grind (arith, nat_tests, first_pair, same_line)
same_left format least jobs reach other upto (entry ∷ entries) same end years =
    let (before, later) = first_in_years entry entries years in
    let window = window_of jobs entry in
    let next = max reach window.1 in
    let other_next = max other window.1 in
    let same_next : min next end_second ≡ min other_next end_second = omega (arith, same) in
    first_pair format least (reach, entry.0) (between next upto (map (window_of jobs) entries))
    ∙ ap (λ line. line ++ text_left format least jobs next upto entries) (same_line format least reach other entry.0 same
    (omega (arith, before)))
    ∙ ap (λ text. line_of_gap format least (other, entry.0) ++ text) (same_left format least jobs next other_next upto
    entries same_next end later)
    ∙ sym (first_pair format least (other, entry.0) (between other_next upto (map (window_of jobs) entries)))

years_from : (entries : List (ℕ × ℕ)) (i : ℕ) → IsInYears entries → IsInYears (drop i entries)
years_from [] zero all = all
years_from [] (suc i) all = all
years_from (entry ∷ entries) zero all = all
years_from (entry ∷ entries) (suc i) all = years_from entries i (first_in_years entry entries all).1

-- the rest after a reach starts with what is before the next entry
pub text_at :
    (format : Format) (least : ℕ) (jobs : List JobParts) (reach upto : ℕ) (entries : List (ℕ × ℕ)) (i : ℕ) (entry : ℕ × ℕ) (latest : ℕ) →
    i < length entries → entry ≡ get_or entries i entry → latest ≡ latest_start (delay_of (slice_get jobs entry.1)) entry.0 →
    upto ≤ end_second → IsInYears entries →
    text_left format least jobs reach upto (drop i entries)
    ≡ line_of_gap format least (reach, entry.0) ++ text_left format least jobs (max reach latest) upto (drop (i + 1) entries)
text_at format least jobs reach upto entries i entry latest lt here late end years = grind (arith, nat_tests, drop_more, first_pair, same_left, years_from)

-- a turn of the loop: what it takes and what is left after it are what was left before it
pub line_taken :
    (format : Format) (least : ℕ) (jobs : List JobParts) (reach upto : ℕ) (entries : List (ℕ × ℕ)) (i : ℕ) (entry : ℕ × ℕ)
    (latest second next : ℕ) (taken whole : List ℕ) →
    i < length entries → entry ≡ get_or entries i entry → latest ≡ latest_start (delay_of (slice_get jobs entry.1)) entry.0 →
    upto ≤ end_second → IsInYears entries → second ≡ entry.0 → next ≡ max reach latest →
    taken ++ text_left format least jobs reach upto (drop i entries) ≡ whole →
    (taken ++ line_of_gap format least (reach, second)) ++ text_left format least jobs next upto (drop (i + 1) entries) ≡ whole
line_taken format least jobs reach upto entries i entry latest second next taken whole lt here late end years start reached left = grind (arith, nat_tests, append_assoc, text_at)
