-- The gaps of an agenda, pair by pair: for the loop of `Gaps::new`. The loop's reach is at most the end of the planner's
-- years, which changes no gap: no pair ends later.
use Rattle.std.proofs.Common.{◌≡◌, ℕ, zero, suc, ◌+◌, ◌<◌, ◌≤◌, min, max, false, List, [], ◌∷◌, ◌++◌, length, drop, get_or, map, inl, inr, refl, ap, sym, ◌∙◌, arith, append_assoc, append-nil, le-ltb}
use Rattle.std.proofs.lemmas.List.{drop_all}
use Rattle.std.specs.Prelude.{filter, if◌then◌else◌, nat_lt, slice_get}
use Rattle.std.specs.List.{list_all}
use Rattle.std.proofs.lemmas.Bool.{cases_Bool, cases_lt, and_parts, ltb-true}
use Rattle.plan_sets.specs.Limits.{end_second}
use Rattle.plan_rules.specs.Job.{JobParts}
use Rattle.plan_collect.specs.Agenda.{IsInYears}
use Rattle.plan_collect.specs.Windows.{latest_start}
use Rattle.plan_write.specs.Quiet.{between, delay_of, is_gap, window_of}

-- the gaps that are left, of entries after a reach
abbrev pub gaps_left : (least : ℕ) → List JobParts → (reach upto : ℕ) → List (ℕ × ℕ) → List (ℕ × ℕ)
gaps_left least jobs reach upto entries = filter (is_gap least) (between reach upto (map (window_of jobs) entries))

-- a pair, if it is a gap
abbrev pub gap_if : (least : ℕ) → ℕ × ℕ → List (ℕ × ℕ)
gap_if least pair = if is_gap least pair then pair ∷ [] else []

first_pair :
    (least : ℕ) (pair : ℕ × ℕ) (later : List (ℕ × ℕ)) →
    filter (is_gap least) (pair ∷ later) ≡ gap_if least pair ++ filter (is_gap least) later
first_pair least pair later = elim (cases_Bool (is_gap least pair)) [
  | inl is ↦ rw is refl
  | inr not ↦ rw not refl
]

-- two reaches that are the same in the planner's years
same_gap :
    (least reach other to : ℕ) → min reach end_second ≡ min other end_second → to ≤ end_second →
    gap_if least (reach, to) ≡ gap_if least (other, to)
same_gap least reach other to same years = elim (cases_lt reach to) [
  | inl lt ↦
      let one : reach ≡ other = omega (arith, same, years, lt) in
      ap (λ n. gap_if least (n, to)) one
  | inr ge ↦
      let none : nat_lt reach to ≡ false = le-ltb reach to ge in
      let no_other : nat_lt other to ≡ false = le-ltb other to (omega (arith, same, years, ge)) in
      rw (none, no_other) refl
]

-- the first entry is in the planner's years, and so are the others
first_in_years :
    (entry : ℕ × ℕ) (entries : List (ℕ × ℕ)) → IsInYears (entry ∷ entries) → (entry.0 < end_second) × IsInYears entries
first_in_years entry entries all =
    let both = and_parts (nat_lt entry.0 end_second) (list_all (λ other. nat_lt other.0 end_second) entries) all in
    (ltb-true entry.0 end_second both.0, both.1)

same_left :
    (least : ℕ) (jobs : List JobParts) (reach other upto : ℕ) (entries : List (ℕ × ℕ)) →
    min reach end_second ≡ min other end_second →
    upto ≤ end_second → IsInYears entries → gaps_left least jobs reach upto entries ≡ gaps_left least jobs other upto entries
same_left least jobs reach other upto [] same end years =
    first_pair least (reach, upto) [] ∙ ap (λ gap. gap ++ []) (same_gap least reach other upto same end)
    ∙ sym (first_pair least (other, upto) [])
same_left least jobs reach other upto (entry ∷ entries) same end years =
    let (before, later) = first_in_years entry entries years in
    let window = window_of jobs entry in
    let next = max reach window.1 in
    let other_next = max other window.1 in
    let same_next : min next end_second ≡ min other_next end_second = omega (arith, same) in
    first_pair least (reach, entry.0) (between next upto (map (window_of jobs) entries))
    ∙ ap (λ gap. gap ++ gaps_left least jobs next upto entries) (same_gap least reach other entry.0 same
    (omega (arith, before)))
    ∙ ap (λ gaps. gap_if least (other, entry.0) ++ gaps) (same_left least jobs next other_next upto
    entries same_next end later)
    ∙ sym (first_pair least (other, entry.0) (between other_next upto (map (window_of jobs) entries)))

rest_from : (entries : List (ℕ × ℕ)) (i : ℕ) (d : ℕ × ℕ) → i < length entries → drop i entries ≡ get_or entries i d ∷ drop (suc i) entries
rest_from [] i d lt = absurd (omega arith)
rest_from (entry ∷ entries) zero d lt = refl
rest_from (entry ∷ entries) (suc i) d lt = rest_from entries i d (omega arith)

years_from : (entries : List (ℕ × ℕ)) (i : ℕ) → IsInYears entries → IsInYears (drop i entries)
years_from [] zero all = all
years_from [] (suc i) all = all
years_from (entry ∷ entries) zero all = all
years_from (entry ∷ entries) (suc i) all = years_from entries i (first_in_years entry entries all).1

-- the rest after a reach starts with what is before the next entry
gaps_at :
    (least : ℕ) (jobs : List JobParts) (reach upto : ℕ) (entries : List (ℕ × ℕ)) (i : ℕ) (entry : ℕ × ℕ) (latest : ℕ) →
    i < length entries → entry ≡ get_or entries i entry → latest ≡ latest_start (delay_of (slice_get jobs entry.1)) entry.0 →
    upto ≤ end_second → IsInYears entries →
    gaps_left least jobs reach upto (drop i entries)
    ≡ gap_if least (reach, entry.0) ++ gaps_left least jobs (max reach latest) upto (drop (i + 1) entries)
gaps_at least jobs reach upto entries i entry latest lt here late end years =
    let one : suc i ≡ i + 1 = omega arith in
    let later = drop (i + 1) entries in
    let rest : drop i entries ≡ entry ∷ later =
    rest_from entries i entry lt ∙ ap (λ k. get_or entries i entry ∷ drop k entries) one ∙ ap (λ e. e ∷ later) (sym here) in
    let next = max reach (window_of jobs entry).1 in
    let same : min next end_second ≡ min (max reach latest) end_second = omega (arith, late) in
    ap (gaps_left least jobs reach upto) rest ∙ first_pair least (reach, entry.0) (between next upto (map
    (window_of jobs) later))
    ∙ ap (λ gaps. gap_if least (reach, entry.0) ++ gaps)
    (same_left least jobs next (max reach latest) upto later same end (years_from entries (i + 1) years))

-- a turn of the loop: what was found and what is left after it are what was found and left before it
pub gap_found :
    (least : ℕ) (jobs : List JobParts) (reach upto : ℕ) (entries : List (ℕ × ℕ)) (i : ℕ) (entry : ℕ × ℕ)
    (latest second next : ℕ) (found whole : List (ℕ × ℕ)) →
    i < length entries → entry ≡ get_or entries i entry → latest ≡ latest_start (delay_of (slice_get jobs entry.1)) entry.0 →
    upto ≤ end_second → IsInYears entries → second ≡ entry.0 → next ≡ max reach latest →
    found ++ gaps_left least jobs reach upto (drop i entries) ≡ whole →
    (found ++ gap_if least (reach, second)) ++ gaps_left least jobs next upto (drop (i + 1) entries) ≡ whole
gap_found least jobs reach upto entries i entry latest second next found whole lt here late end years start reached left =
    append_assoc found (gap_if least (reach, second)) (gaps_left least jobs next upto (drop (i + 1) entries))
    ∙ (λ k. found ++ (gap_if least (reach, start k) ++ gaps_left least jobs (reached k) upto (drop (i + 1) entries)))
    ∙ ap (λ gaps. found ++ gaps) (sym (gaps_at least jobs reach upto entries i entry latest lt here late end years)) ∙ left

-- after the last entry there is one pair
pub gap_last :
    (least : ℕ) (jobs : List JobParts) (reach upto : ℕ) (entries : List (ℕ × ℕ)) (i : ℕ) → length entries ≤ i →
    gaps_left least jobs reach upto (drop i entries) ≡ gap_if least (reach, upto)
gap_last least jobs reach upto entries i all =
    ap (gaps_left least jobs reach upto) (drop_all i entries all) ∙ first_pair least (reach, upto) [] ∙ append-nil (gap_if least (reach, upto))
