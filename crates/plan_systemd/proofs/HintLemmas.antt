-- The hint of the first of two finds.
use Rattle.std.proofs.Common.{◌≡◌, Option, Some, None, refl}
use Rattle.std.specs.Option.{option_map, option_or}

pub hint_of_or :
    {A B : Type 0} (hint : A → B) (x y : Option A) → option_map hint (option_or x y) ≡ option_or (option_map hint x) (option_map hint y)
hint_of_or hint None y = refl
hint_of_or hint (Some x) y = refl
