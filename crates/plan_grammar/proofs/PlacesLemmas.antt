-- The places that a list of items stands for, checked one by one.
-- For the loops of `first_fault` (`first_place_fault-push`, `-found`) and of `listed_places` (the rest). Errors are by
-- induction over the items: the first error stays the first. Places are a case split on whether a value is the place of the turn.
use Rattle.std.proofs.Common.{◌≡◌, ℕ, ◌+◌, Bool, true, false, ◌&&◌, ◌||◌, nat_eq, List, [], ◌∷◌, ◌++◌, take, drop, Option, Some, None, ap, sym, ◌∙◌, arith, take-append-drop}
use Rattle.std.proofs.lemmas.Bool.Decides.{nat_tests}
use Rattle.plan_sets.specs.declared.item.Item.{Item}
use Rattle.plan_sets.specs.declared.item.SetFault.{SetFault}
use Rattle.plan_sets.specs.Items.{fault_or}
use Rattle.plan_sets.specs.Values.{Values, has_value, values_where, is_among}
use Rattle.plan_sets.specs.ValuesLaws.{same_values, has_value-values_where, base-values_where}
use Rattle.plan_grammar.specs.Event.{place_fault, first_place_fault}

-- an item before others that have no error, and before others that have one
unless_here : (here later new end : Option SetFault) → fault_or here later ≡ None → (later ≡ None → new ≡ end) → fault_or here new ≡ end
unless_here here later new end none more = grind (arith, nat_tests)

still_first :
    (here later new : Option SetFault) (fault : SetFault) → fault_or here later ≡ Some fault →
    (later ≡ Some fault → new ≡ Some fault) → fault_or here new ≡ Some fault
still_first here later new fault is more = grind (arith, nat_tests)

-- one more item
pub first_place_fault-push :
    (items : List Item) (item : Item) → first_place_fault items ≡ None → first_place_fault (items ++ item ∷ []) ≡ place_fault item
first_place_fault-push [] item none = grind (arith, nat_tests)
first_place_fault-push (i ∷ items) item none =
    unless_here (place_fault i) (first_place_fault items) _ _ none (first_place_fault-push items item)

-- the first error stays the first, whatever follows
first_place_fault-append :
    (items more : List Item) (fault : SetFault) → first_place_fault items ≡ Some fault →
    first_place_fault (items ++ more) ≡ Some fault
first_place_fault-append [] more fault is = cc
first_place_fault-append (i ∷ items) more fault is =
    still_first (place_fault i) (first_place_fault items) _ fault is (first_place_fault-append items more fault)

-- the error of a list whose items have no error before this item
pub first_place_fault-found :
    (items : List Item) (k : ℕ) (item : Item) (fault : SetFault) → take (k + 1) items ≡ take k items ++ item ∷ [] →
    first_place_fault (take k items) ≡ None → place_fault item ≡ Some fault → first_place_fault items ≡ Some fault
first_place_fault-found items k item fault more none is =
    let whole : take (k + 1) items ++ drop (k + 1) items ≡ items = take-append-drop (k + 1) items in
    let front : first_place_fault (take (k + 1) items) ≡ Some fault =
    ap first_place_fault more ∙ first_place_fault-push (take k items) item none ∙ is in
    ap first_place_fault (sym whole) ∙ first_place_fault-append (take (k + 1) items) (drop (k + 1) items) fault front

-- before the first place, nothing is collected
pub none_yet : (b : Bool) (v : ℕ) → false ≡ (is_among 1 0 v && b)
none_yet b v = grind (arith, nat_tests)

-- one more place, which is listed
pub place_added :
    (b : Bool) (test : ℕ → Bool) (n v : ℕ) → test (n + 1) ≡ true → b ≡ (is_among 1 n v && test v) →
    (nat_eq v (n + 1) || b) ≡ (is_among 1 (n + 1) v && test v)
place_added b test n v passes is = grind (arith, nat_tests)

-- one more place, which isn't listed
pub place_passed :
    (b : Bool) (test : ℕ → Bool) (n v : ℕ) → test (n + 1) ≡ false → b ≡ (is_among 1 n v && test v) →
    b ≡ (is_among 1 (n + 1) v && test v)
place_passed b test n v fails is = grind (arith, nat_tests)

-- all places up to the last are collected
pub places_collected :
    (test : ℕ → Bool) (n : ℕ) (places : Values) → places.base ≡ 1 → ((v : ℕ) → has_value places v ≡ (is_among 1 n v && test v)) →
    places ≡ values_where 1 n test
places_collected test n places base members = grind (arith, nat_tests, same_values, base-values_where, has_value-values_where)
