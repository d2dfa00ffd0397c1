-- What the loops over what jobs miss make: so far, and with one more.
use Rattle.std.proofs.Common.{◌≡◌, ℕ, ◌+◌, ◌<◌, List, [], ◌∷◌, ◌++◌, length, take, get_or, Option, ap, sym, ◌∙◌}
use Rattle.std.specs.List.{cons_option, filter_map}
use Rattle.std.proofs.lemmas.List.{take_more}
use Rattle.std.proofs.lemmas.List.Elements.{filter_map-append}

-- what is made of the elements so far, and then of one more, if anything is
pub made_more :
    {X Y : Type 0} (f : X → Option Y) (xs : List X) (i : ℕ) (x d : X) (made next : List Y) → i < length xs → x ≡ get_or xs i d →
    made ≡ filter_map f (take i xs) → next ≡ made ++ cons_option (f x) [] → next ≡ filter_map f (take (i + 1) xs)
made_more {X = X} {Y = Y} f xs i x d made next within is so_far pushed =
    pushed ∙ (λ k. so_far k ++ cons_option (f (is k)) []) ∙ sym (filter_map-append f (take i xs) (get_or xs i d ∷ []))
    ∙ sym (ap (filter_map f) (take_more xs i d within))
