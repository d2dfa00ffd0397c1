-- What loops make for the elements of a list: so far, and with one more.
use Rattle.std.proofs.Common.{◌≡◌, ℕ, ◌+◌, ◌<◌, List, [], ◌∷◌, ◌++◌, length, map, take, get_or, Some, ap, sym, ◌∙◌, append-nil}
use Rattle.std.specs.List.{flat_map}
use Rattle.std.specs.Prelude.{slice_get}
use Rattle.std.proofs.lemmas.List.{take_more, map-append}
use Rattle.std.proofs.lemmas.Grind.{flat_map-append}
use Rattle.std.proofs.lemmas.Option.{slice_get_within, get_or_from_slice_get}

-- what the elements so far make, and then what the next one does
pub pieces_more :
    {X Y : Type 0} (f : X → List Y) (xs : List X) (i : ℕ) (x d : X) → i < length xs → x ≡ get_or xs i d →
    flat_map f (take i xs) ++ f x ≡ flat_map f (take (i + 1) xs)
pieces_more f xs i x d lt is =
    ap (λ text. flat_map f (take i xs) ++ text) (sym (append-nil (f x))) ∙ sym (flat_map-append f (take i xs) (x ∷ []))
    ∙ ap (λ y. flat_map f (take i xs ++ y ∷ [])) is ∙ sym (ap (flat_map f) (take_more xs i d lt))

-- one more element, and what is made of it
pub made_more :
    {X Y : Type 0} (f : X → Y) (xs : List X) (i : ℕ) (x : X) (made : List Y) (y : Y) →
    made ≡ map f (take i xs) → Some x ≡ slice_get xs i → y ≡ f x → made ++ y ∷ [] ≡ map f (take (i + 1) xs)
made_more f xs i x made y so_far is own =
    let lt = slice_get_within xs i x (sym is) in
    let here = get_or_from_slice_get xs i x x (sym is) in
    let more : take (i + 1) xs ≡ take i xs ++ x ∷ [] = take_more xs i x lt ∙ ap (λ y. take i xs ++ y ∷ []) here in
    (λ k. so_far k ++ own k ∷ []) ∙ sym (map-append f (take i xs) (x ∷ [])) ∙ sym (ap (map f) more)
