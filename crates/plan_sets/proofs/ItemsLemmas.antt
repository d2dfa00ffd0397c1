-- Steps of a range, and the values of a list of items.
-- For the loop of `add_steps`, for `add_to` of a single value, and for `set_of`, which reads a list item by item. By induction
-- over the list: one more item adds its values, and the first error stays the first. `set_reading` is unfolded.
use Rattle.std.proofs.Common.{◌≡◌, ℕ, ◌+◌, ◌-◌, ◌*◌, ◌/◌, ◌%◌, ◌<◌, ◌≤◌, Bool, true, false, ◌&&◌, ◌||◌, ◌==◌, nat_le, nat_lt, nat_eq, refl, ap, sym, ◌∙◌, arith, inl, inr, List, [], ◌∷◌, ◌++◌, length, take, drop, take-append-drop, Option, Some, None, Ok, Err, ◌⊎◌}
use Rattle.std.specs.List.{list_any}
use Rattle.plan_sets.specs.declared.item.Item.{Item}
use Rattle.plan_sets.specs.declared.item.Item.TheVariants.{One}
use Rattle.plan_sets.specs.declared.item.SetFault.{SetFault}
use Rattle.plan_sets.specs.declared.item.SetFault.TheVariants.{NoItem}
use Rattle.plan_sets.specs.Values.{Values, has_value, is_among}
use Rattle.plan_sets.specs.Items.{belongs, is_within, is_held, is_step, item_fault, fault_or, first_fault, items_fault, held_values, values_or_fault, set_reading}
use Rattle.plan_sets.specs.ValuesLaws.{has_value-values_where, base-values_where, same_values}
use Rattle.std.proofs.lemmas.Bool.{cases_eq, cases_lt, eq-eqb, ne_eqb}
use Rattle.std.proofs.lemmas.Nat.{mod-mul-add}
use Rattle.std.proofs.Math.Nat.{mod-add-div'}
use Rattle.std.proofs.lemmas.Bool.Decides.{nat_tests}

-- v is one of the first `count` numbers from `first` on, and a step
abbrev pub is_step_before : ℕ → ℕ → ℕ → ℕ → Bool
is_step_before first count step v = nat_le first v && (nat_lt v (first + count) && ((v - first) % step == 0))

-- no number between a step and the next is a step
no_step_between :
    (first value step v : ℕ) → first ≤ value → (value - first) % step ≡ 0 → value < v → v < value + step →
    ((v - first) % step == 0) ≡ false
no_step_between first value step v from is low high =
    let whole : (value - first) / step * step ≡ value - first = omega (arith, mod-add-div' (value - first) step, is) in
    let apart : v - first ≡ (value - first) / step * step + (v - value) = omega (arith, whole) in
    let rest : (v - first) % step ≡ v - value = ap (λ n. n % step) apart ∙ mod-mul-add ((value - first) / step) step (v - value)
    (omega arith) in
    ne_eqb _ _ (λ none. omega (arith, rest, none))

-- with the next step: all steps before the one after it
pub step_added :
    (first value step v : ℕ) (old : Bool) → 0 < step → first ≤ value → (value - first) % step ≡ 0 →
    (nat_eq v value || (old || is_step_before first (value - first) step v)) ≡ (old || is_step_before first (value + step - first) step v)
step_added first value step v old moves from is =
    elim (cases_lt v value) [
      | inl before ↦ grind (arith, nat_tests)
      | inr after ↦ elim (cases_eq v value) [
        | inl same ↦
            let test : ((v - first) % step == 0) ≡ true = rw same (eq-eqb _ _ is) in
            rw test (grind (arith, nat_tests))
        | inr apart ↦ elim (cases_lt v (value + step)) [
          | inl between ↦ rw (no_step_between first value step v from is (omega (arith, apart)) between) (grind (arith, nat_tests))
          | inr past ↦ grind (arith, nat_tests)
        ]
      ]
    ]

-- with the last step: all steps up to the end
pub last_step_added :
    (first value last step v : ℕ) (old : Bool) → 0 < step → first ≤ value → value ≤ last → last < value + step →
    (value - first) % step ≡ 0 →
    (nat_eq v value || (old || is_step_before first (value - first) step v)) ≡ (old || is_step first last step v)
last_step_added first value last step v old moves from to end is =
    step_added first value step v old moves from is
    ∙ elim (cases_lt last v) [
      | inl past ↦ elim (cases_lt v (value + step)) [
        | inl between ↦ rw (no_step_between first value step v from is (omega arith) between) (grind (arith, nat_tests))
        | inr after ↦ grind (arith, nat_tests)
      ]
      | inr within ↦ grind (arith, nat_tests)
    ]

or_assoc : (a b c : Bool) → ((a || b) || c) ≡ (a || (b || c))
or_assoc a b c = grind (arith, nat_tests)

both_within : (w a b : Bool) → ((w && a) || (w && b)) ≡ (w && (a || b))
both_within w a b = grind (arith, nat_tests)

fault_or-None : (fault : Option SetFault) → fault_or fault None ≡ fault
fault_or-None fault = grind (arith, nat_tests)

cases_fault : (fault : Option SetFault) → (fault ≡ None) ⊎ ((f : SetFault) × (fault ≡ Some f))
cases_fault None = inl refl
cases_fault (Some fault) = inr (fault, refl)

among_within : (lo hi v : ℕ) (b : Bool) → lo ≤ hi → (is_among lo (hi + 1 - lo) v && b) ≡ (is_within lo hi v && b)
among_within lo hi v b limits = grind (arith, nat_tests)

-- one more value, if the item is valid
pub one_added :
    (lo hi a v : ℕ) (old : Bool) → item_fault lo hi (One a) ≡ None →
    (nat_eq v a || old) ≡ (old || (is_within lo hi v && belongs (One a) v))
one_added lo hi a v old faultless = grind (arith, nat_tests)

-- the values of a list with one more item at its end
pub any_belongs-push :
    (items : List Item) (item : Item) (v : ℕ) →
    list_any (λ i. belongs i v) (items ++ item ∷ []) ≡ (list_any (λ i. belongs i v) items || belongs item v)
any_belongs-push [] item v = grind (arith, nat_tests)
any_belongs-push (i ∷ items) item v = rw (any_belongs-push items item v)
    (sym (or_assoc (belongs i v) (list_any (λ j. belongs j v) items) (belongs item v)))

pub is_held-push :
    (items : List Item) (item : Item) (lo hi v : ℕ) →
    (is_held items lo hi v || (is_within lo hi v && belongs item v)) ≡ is_held (items ++ item ∷ []) lo hi v
is_held-push items item lo hi v = rw (any_belongs-push items item v)
    (both_within (is_within lo hi v) (list_any (λ i. belongs i v) items) (belongs item v))

-- the first error of a list with one more item
pub first_fault-push :
    (lo hi : ℕ) (items : List Item) (item : Item) → first_fault lo hi items ≡ None →
    first_fault lo hi (items ++ item ∷ []) ≡ item_fault lo hi item
first_fault-push lo hi [] item none = fault_or-None (item_fault lo hi item)
first_fault-push lo hi (i ∷ items) item none =
    elim (cases_fault (item_fault lo hi i)) [
      | inl here ↦
          let later : first_fault lo hi items ≡ None = rw here at none in
          rw here (first_fault-push lo hi items item later)
      | inr there ↦ let bad : Some there.0 ≡ None = rw there.1 at none in cc
    ]

-- the first error stays the first, whatever follows
pub first_fault-append :
    (lo hi : ℕ) (items more : List Item) (fault : SetFault) → first_fault lo hi items ≡ Some fault →
    first_fault lo hi (items ++ more) ≡ Some fault
first_fault-append lo hi [] more fault is = cc
first_fault-append lo hi (i ∷ items) more fault is =
    elim (cases_fault (item_fault lo hi i)) [
      | inl here ↦
          let later : first_fault lo hi items ≡ Some fault = rw here at is in
          rw here (first_fault-append lo hi items more fault later)
      | inr there ↦
          let same : Some there.0 ≡ Some fault = rw there.1 at is in
          rw there.1 same
    ]

-- a list that is not empty has the error of its items
pub items_fault-filled : (lo hi : ℕ) (items : List Item) → 0 < length items → items_fault lo hi items ≡ first_fault lo hi items
items_fault-filled lo hi items given = grind (arith, nat_tests)

-- the reading of a list with valid items before an invalid one
pub set_reading-fault :
    (lo hi : ℕ) (items : List Item) (k : ℕ) (item : Item) (fault : SetFault) → k < length items →
    take (k + 1) items ≡ take k items ++ item ∷ [] → first_fault lo hi (take k items) ≡ None → item_fault lo hi item ≡ Some fault →
    set_reading items lo hi ≡ Err fault
unfolding set_reading
set_reading-fault lo hi items k item fault below more none is =
    let whole : take (k + 1) items ++ drop (k + 1) items ≡ items = take-append-drop (k + 1) items in
    let front : first_fault lo hi (take (k + 1) items) ≡ Some fault = ap (first_fault lo hi) more ∙ first_fault-push lo hi
    (take k items) item none ∙ is in
    let all : first_fault lo hi items ≡ Some fault = ap (first_fault lo hi) (sym whole) ∙ first_fault-append lo hi
    (take (k + 1) items) (drop (k + 1) items) fault front in
    ap (values_or_fault (held_values items lo hi)) (items_fault-filled lo hi items (omega arith) ∙ all)

-- the reading of a list of valid items
pub set_reading-values :
    (lo hi : ℕ) (items : List Item) (s : Values) → 0 < length items → lo ≤ hi → first_fault lo hi items ≡ None → s.base ≡ lo →
    ((v : ℕ) → has_value s v ≡ is_held items lo hi v) → set_reading items lo hi ≡ Ok s
unfolding set_reading
set_reading-values lo hi items s filled limits none base held =
    let same : held_values items lo hi ≡ s =
    same_values (held_values items lo hi) s (base-values_where lo (hi + 1 - lo) (λ v. list_any (λ i. belongs i v) items) ∙ sym base)
    (λ v. has_value-values_where lo (hi + 1 - lo) (λ u. list_any (λ i. belongs i u) items) v ∙ among_within lo hi v
    (list_any (λ i. belongs i v) items) limits ∙ sym (held v)) in
    ap (values_or_fault (held_values items lo hi)) (items_fault-filled lo hi items filled ∙ none) ∙ ap Ok same

-- an empty list has nothing to read
pub set_reading-empty : (lo hi : ℕ) (items : List Item) → length items ≡ 0 → set_reading items lo hi ≡ Err NoItem
unfolding set_reading
set_reading-empty lo hi items given = grind (arith, nat_tests)

-- no items have no values
pub nothing_held : (lo hi v : ℕ) → is_held [] lo hi v ≡ false
nothing_held lo hi v = grind (arith, nat_tests)
