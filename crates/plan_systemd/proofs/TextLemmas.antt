-- The values of a step, one after another: for `values_text`.
use Rattle.std.proofs.Common.{◌≡◌, ℕ, ◌+◌, zero, suc, List, ◌++◌, ap, sym, ◌∙◌, arith, append-nil, append_assoc}
use Rattle.std.specs.Prelude.{flat_map}
use Rattle.std.specs.List.{range_with_len}

-- the texts of a range, and that of the number after it
pub flat_map-push :
    (f : ℕ → List ℕ) (a n : ℕ) → flat_map f (range_with_len a (n + 1)) ≡ flat_map f (range_with_len a n) ++ f (a + n)
flat_map-push f a zero =
    let here : a + 0 ≡ a = omega arith in
    rw here (append-nil (f a))
flat_map-push f a (suc n) =
    let more : suc n + 1 ≡ suc (n + 1) = omega arith in
    let place : a + suc n ≡ a + 1 + n = omega arith in
    rw (more, place) (ap (λ text. f a ++ text) (flat_map-push f (a + 1) n) ∙ sym (append_assoc (f a) (flat_map f (range_with_len (a + 1) n)) (f (a + 1 + n))))
