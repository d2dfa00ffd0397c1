-- The ring of a sender (agenda).
use Rattle.std.specs.Prelude.{◌≡◌, ◌≤◌, List, ◌++◌, length}
use Rattle.std.proofs.Common.{subst, sym, ap, ◌∙◌, le-add_left}
use Rattle.std.proofs.lemmas.List.{length-append}

-- the rest of a list is no longer than the list
pub length_left : {A : Type 0} (taken left all : List A) → taken ++ left ≡ all → length left ≤ length all
length_left taken left all e = subst (λ n. length left ≤ n) (sym (length-append taken left) ∙ ap length e)
    (le-add_left (length left) (length taken))
