-- How many files come before a source.
use Rattle.std.proofs.Common.{◌≡◌, ℕ, zero, suc, ◌+◌, ◌<◌, ◌≤◌, inl, inr, List, [], ◌∷◌, length, get_or, map, take, None, refl, ap, sym, ◌∙◌, arith}
use Rattle.std.specs.List.{slice_get}
use Rattle.std.proofs.lemmas.Bool.{cases_lt}
use Rattle.std.proofs.lemmas.List.Sums.{sum_by-cons}
use Rattle.plan_machine.specs.Source.{SourceParts}
use Rattle.plan_parts.specs.Parts.{files_of}
use Rattle.agenda_sources.specs.declared.Found.{Found}
use Rattle.agenda_machine.specs.Places.{counts_before, found_in, located_at, part_count}

count_after :
    (before : ℕ) (sources : List SourceParts) (n : ℕ) → n < length sources →
    get_or (counts_before before sources) n 0 ≡ before + part_count (take n sources)
count_after before [] n inside = absurd (omega (arith, inside))
count_after before (first ∷ more) zero inside = let none : before + 0 ≡ before = omega arith in sym none
count_after before (first ∷ more) (suc n) inside =
    let size = length (files_of first.parts) in
    let all = sum_by-cons (λ z. z) size (map (λ source. length (files_of source.parts)) (take n more)) in
    let same : before + size + part_count (take n more) ≡ before + part_count (first ∷ take n more) = omega (arith, all) in
    count_after (before + size) more n (omega (arith, inside)) ∙ same

past : {X : Type 0} (xs : List X) (n : ℕ) → length xs ≤ n → slice_get xs n ≡ None
past [] n long = refl
past (x ∷ xs) zero long = absurd (omega (arith, long))
past (x ∷ xs) (suc n) long = past xs n (omega (arith, long))

-- a finding by how many files come before its source
pub located_by :
    (counts : List ℕ) (sources : List SourceParts) (one : Found) → counts ≡ counts_before 0 sources →
    found_in (get_or counts one.place 0) (slice_get sources one.place) one ≡ located_at sources one
located_by counts sources one is =
    let before = part_count (take one.place sources) in
    elim (cases_lt one.place (length sources)) as (λ _.
    found_in (get_or counts one.place 0) (slice_get sources one.place) one ≡ located_at sources one) [
      | inl inside ↦
          let none : 0 + before ≡ before = omega arith in
          let count = ap (λ list. get_or list one.place 0) is ∙ count_after 0 sources one.place inside ∙ none in
          ap (λ n. found_in n (slice_get sources one.place) one) count
      | inr long ↦
          let none = past sources one.place long in
          ap (λ source. found_in (get_or counts one.place 0) source one) none
          ∙ sym (ap (λ source. found_in before source one) none)
    ]
