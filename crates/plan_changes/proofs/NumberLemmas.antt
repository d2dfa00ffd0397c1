-- The numbers of what jobs run, one after the other: for the loop of `numbers_of`, and for `NewKeys::new`.
use Rattle.std.proofs.Common.{◌≡◌, ℕ, zero, suc, ◌+◌, ◌<◌, List, [], ◌∷◌, ◌++◌, length, map, Option, Some, option_map, arith, ap, refl, subst, sym, ◌∙◌, inl, inr}
use Rattle.std.specs.Prelude.{slice_get, slice_index, unwrap_or}
use Rattle.std.proofs.lemmas.Bool.{cases_lt}
use Rattle.std.proofs.lemmas.List.{length-append, length-map}
use Rattle.std.proofs.lemmas.Option.{slice_get-get_or, slice_get-map, slice_get_past}
use Rattle.plan_changes.specs.Keys.{AreKeysOf, AreNumbersOf, HaveStayed, IsKeyOf, key_of_entry}
use Rattle.plan_changes.specs.Lines.{line_of_entry, lines_of, texts_at}

index_before : (numbers : List ℕ) (number k : ℕ) → k < length numbers → slice_index (numbers ++ number ∷ []) k ≡ slice_index numbers k
index_before [] number k lt = absurd (omega arith)
index_before (n ∷ numbers) number zero lt = refl
index_before (n ∷ numbers) number (suc k) lt = index_before numbers number k (omega arith)

index_last : (numbers : List ℕ) (number k : ℕ) → length numbers ≡ k → slice_index (numbers ++ number ∷ []) k ≡ number
index_last [] number zero is = refl
index_last [] number (suc k) is = absurd (omega (arith, is))
index_last (n ∷ numbers) number zero is = absurd (omega (arith, is))
index_last (n ∷ numbers) number (suc k) is = index_last numbers number k (omega (arith, is))

-- the numbers of what the first jobs run, and texts that stayed
pub record AreNumbered (first texts : List (List ℕ)) (jobs : List (List ℕ × List ℕ)) (count : ℕ) (numbers : List ℕ) : Type 0 where
  pub many : length numbers ≡ count
  pub are : (job : ℕ) → job < count → slice_get texts (slice_index numbers job) ≡ Some (texts_at jobs job).1
  pub stay : HaveStayed first texts

pub none_numbered : (texts : List (List ℕ)) (jobs : List (List ℕ × List ℕ)) (numbers : List ℕ) → numbers ≡ [] → AreNumbered texts texts jobs 0 numbers
none_numbered texts jobs numbers none = record {
  many = ap length none;
  are = λ job lt. absurd (omega (arith, lt));
  stay = λ number text is. is;
}

-- one more number
pub one_numbered :
    (first texts next : List (List ℕ)) (jobs : List (List ℕ × List ℕ)) (count : ℕ) (numbers more : List ℕ) (number : ℕ) →
    slice_get next number ≡ Some (texts_at jobs count).1 → HaveStayed texts next → more ≡ numbers ++ number ∷ [] →
    AreNumbered first texts jobs count numbers → AreNumbered first next jobs (count + 1) more
one_numbered first texts next jobs count numbers more number own stay pushed so_far = record {
  many = omega (arith, ap length pushed, length-append numbers (number ∷ []), so_far.many);
  are = λ job lt. elim (cases_lt job count) [
    | inl before ↦ ap (λ ns. slice_get next (slice_index ns job)) pushed
        ∙ ap (slice_get next) (index_before numbers number job (omega (arith, before, so_far.many)))
        ∙ stay (slice_index numbers job) (texts_at jobs job).1 (so_far.are job before)
    | inr past ↦ (let here : count ≡ job = omega (arith, lt, past) in
        ap (λ ns. slice_get next (slice_index ns job)) pushed
        ∙ ap (slice_get next) (index_last numbers number job (so_far.many ∙ here))
        ∙ own ∙ ap (λ k. Some (texts_at jobs k).1) here)
  ];
  stay = λ number text is. stay number text (so_far.stay number text is);
}

pub all_numbered :
    (first texts : List (List ℕ)) (jobs : List (List ℕ × List ℕ)) (numbers : List ℕ) → AreNumbered first texts jobs (length jobs) numbers →
    AreNumbersOf texts jobs numbers
all_numbered first texts jobs numbers are = record {
  many = are.many;
  are = λ job lt. are.are job (omega (arith, lt, are.many));
}

-- the number of what a job runs
runs_at :
    (first texts : List (List ℕ)) (jobs : List (List ℕ × List ℕ)) (numbers : List ℕ) (empty job : ℕ) → AreNumbersOf first jobs numbers →
    HaveStayed first texts → slice_get texts empty ≡ Some [] →
    slice_get texts (unwrap_or (slice_get numbers job) empty) ≡ Some (texts_at jobs job).1
runs_at first texts jobs numbers empty job are stay none = elim (cases_lt job (length numbers)) [
  | inl lt ↦ ap (λ one. slice_get texts (unwrap_or one empty)) (slice_get-get_or numbers job 0 lt)
      ∙ stay (slice_index numbers job) (texts_at jobs job).1 (are.are job lt)
  | inr past ↦ ap (λ one. slice_get texts (unwrap_or one empty)) (slice_get_past numbers job past) ∙ none
      ∙ ap (λ (one : Option (List ℕ × List ℕ)). Some (unwrap_or one ([], [])).1) (sym (slice_get_past jobs job (omega (arith, are.many, past))))
]

-- what is at a place of a list of values
value_at :
    {X Y : Type 0} (f : X → Y) (xs : List X) (place : ℕ) (y : Y) → slice_get (map f xs) place ≡ Some y →
    (x : X) × (slice_get xs place ≡ Some x) × (f x ≡ y)
value_at f [] place y is = absurd cc
value_at f (x ∷ xs) zero y is = (x, refl, cc)
value_at f (x ∷ xs) (suc place) y is = value_at f xs place y is

-- the keys of all entries
pub new_keyed :
    (first texts : List (List ℕ)) (jobs : List (List ℕ × List ℕ)) (numbers : List ℕ) (empty : ℕ) (entries : List (ℕ × ℕ)) →
    AreNumbersOf first jobs numbers → HaveStayed first texts → slice_get texts empty ≡ Some [] →
    AreKeysOf texts (lines_of jobs entries) (map (key_of_entry numbers empty) entries)
new_keyed first texts jobs numbers empty entries are stay none = record {
  many = length-map entries (key_of_entry numbers empty) ∙ sym (length-map entries (line_of_entry jobs));
  are = λ place key at. (let (entry, own, same) = value_at (key_of_entry numbers empty) entries place key at in (
    line_of_entry jobs entry,
    slice_get-map (line_of_entry jobs) entries place ∙ ap (option_map (line_of_entry jobs)) own,
    subst (IsKeyOf texts (line_of_entry jobs entry)) same (refl, runs_at first texts jobs numbers empty entry.1 are stay none),
  ));
}
