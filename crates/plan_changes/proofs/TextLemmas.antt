-- The numbers of texts that starts run.
use Rattle.std.proofs.Common.{◌≡◌, ℕ, zero, suc, Bool, true, false, cond, List, [], ◌∷◌, ◌++◌, map, Some, option_map, refl, ap, sym, ◌∙◌}
use Rattle.std.specs.Prelude.{slice_get}
use Rattle.std.specs.List.{AllByRecursion, IsDistinct}
use Rattle.std.proofs.lemmas.List.{map-append}
use Rattle.std.proofs.lemmas.Option.{slice_get-map}
use Rattle.plan_changes.specs.Keys.{AreEachOnce, HaveStayed}

-- the text of the key with a number
pub text_at :
    {K : Type 0} (f : K → List ℕ) (keys : List K) (number : ℕ) (key : K) → slice_get keys number ≡ Some key →
    slice_get (map f keys) number ≡ Some (f key)
text_at f keys number key is = slice_get-map f keys number ∙ ap (option_map f) is

key_of_text :
    {K : Type 0} (P : K → Type 0) (f : K → List ℕ) (keys : List K) (number : ℕ) (text : List ℕ) → AllByRecursion P keys →
    slice_get (map f keys) number ≡ Some text → (key : K) × P key × (f key ≡ text)
key_of_text P f [] number text all is = cc
key_of_text P f (k ∷ keys) zero text (here, later) is = (k, here, (let same : f k ≡ text = cc in same))
key_of_text P f (k ∷ keys) (suc number) text (here, later) is = key_of_text P f keys number text later is

-- distinct keys have distinct texts
pub distinct_once :
    {K : Type 0} (eq : K → K → Bool) (f : K → List ℕ) → ((one other : K) → f one ≡ f other → eq one other ≡ true) → (keys : List K) →
    IsDistinct eq keys → AreEachOnce (map f keys)
unfolding IsDistinct
distinct_once eq f same [] distinct = λ one other text is also. cc
distinct_once eq f same (k ∷ keys) (first, later) = go (distinct_once eq f same keys later)
  where
    clash : (number : ℕ) (text : List ℕ) → f k ≡ text → slice_get (map f keys) number ≡ Some text → ⊥
    clash number text own is =
        let (key, differ, its) = key_of_text (λ y. eq k y ≡ false) f keys number text first is in
        let equal = same k key (own ∙ sym its) in
        cc

    go : AreEachOnce (map f keys) → (one other : ℕ) (text : List ℕ) → slice_get (map f (k ∷ keys)) one ≡ Some text →
        slice_get (map f (k ∷ keys)) other ≡ Some text → one ≡ other
    go rest zero zero text is also = refl
    go rest zero (suc other) text is also = absurd (clash other text (let own : f k ≡ text = cc in own) also)
    go rest (suc one) zero text is also = absurd (clash one text (let own : f k ≡ text = cc in own) is)
    go rest (suc one) (suc other) text is also = ap suc (rest one other text is also)

-- texts that are appended leave the others their numbers
pub stay_before : (texts more : List (List ℕ)) → HaveStayed texts (texts ++ more)
stay_before [] more = λ number text is. cc
stay_before (t ∷ texts) more = go (stay_before texts more)
  where
    go : HaveStayed texts (texts ++ more) → (number : ℕ) (text : List ℕ) → slice_get (t ∷ texts) number ≡ Some text →
        slice_get (t ∷ texts ++ more) number ≡ Some text
    go rest zero text is = is
    go rest (suc number) text is = rest number text is

-- the texts stay if a key is inserted
pub stay_inserted :
    {K : Type 0} (f : K → List ℕ) (is : Bool) (keys : List K) (key : K) → HaveStayed (map f keys) (map f (cond is keys (keys ++ key ∷ [])))
stay_inserted f true keys key = λ number text is. is
stay_inserted f false keys key = λ number text is.
    ap (λ texts. slice_get texts number) (map-append f keys (key ∷ [])) ∙ stay_before (map f keys) (f key ∷ []) number text is
