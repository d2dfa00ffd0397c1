-- How numbers are said (agenda). A list of numbers is ascending.
use Rattle.std.specs.Prelude.{◌≡◌, ℕ, ◌+◌, ◌-◌, ◌<◌, ◌≤◌, Bool, true, false, ◌&&◌, ◌==◌, nat_le, if◌then◌else◌, List, [], ◌∷◌, filter, length, Option, Some, None}
use Rattle.std.specs.List.{flat_map, list_any, range_with_len}
use Rattle.plan_words.specs.declared.tree.Span.{Span}
use Rattle.plan_words.specs.Tree.{Values, Steps, Items}

-- those of the `count` numbers from `first` on that pass a test
abbrev pub members : (ℕ → Bool) → (first count : ℕ) → List ℕ
members test first count = filter test (range_with_len first count)

-- the first number from `from` up to `end` that passes a test, or None if there is none
abbrev pub IsFirstMember : (ℕ → Bool) → (from end : ℕ) → Option ℕ → Type 0
IsFirstMember test from end None = (u : ℕ) → from ≤ u → u < end → test u ≡ false
IsFirstMember test from end (Some v) = (from ≤ v) × (v < end) × (test v ≡ true) × ((u : ℕ) → from ≤ u → u < v → test u ≡ false)

-- the list has a number
abbrev pub has_number : List ℕ → ℕ → Bool
has_number vs u = list_any (λ v. v == u) vs

-- ---- spans

abbrev pub single : ℕ → Span
single v = record { first = v; last = v }

-- spans with one more number: the last span is longer by it if they are neighbours
abbrev pub with_number : List Span → ℕ → List Span
with_number [] v = single v ∷ []
with_number (s ∷ []) v = if s.last + 1 == v then record { first = s.first; last = v } ∷ [] else s ∷ single v ∷ []
with_number (s ∷ t ∷ more) v = s ∷ with_number (t ∷ more) v

-- the runs of neighbours, after those that are known
abbrev pub runs_after : List Span → List ℕ → List Span
runs_after known [] = known
runs_after known (v ∷ vs) = runs_after (with_number known v) vs

-- the runs of neighbours, as many in each as there are
abbrev pub runs : List ℕ → List Span
runs vs = runs_after [] vs

-- a run of two is said as two numbers
abbrev pub said_run : Span → List Span
said_run s = if s.first + 1 == s.last then single s.first ∷ single s.last ∷ [] else s ∷ []

-- the items of a sentence: a run of three or more is one
abbrev pub items : List ℕ → List Span
items values = flat_map said_run (runs values)

-- ---- steps

-- each number is so far after the one before
abbrev pub is_spaced : (step before : ℕ) → List ℕ → Bool
is_spaced step before [] = true
is_spaced step before (v ∷ vs) = (before + step == v) && is_spaced step v vs

-- the last of the numbers after one
abbrev pub last_of : ℕ → List ℕ → ℕ
last_of v [] = v
last_of v (w ∷ ws) = last_of w ws

-- the list has all numbers from `first` to `last`
abbrev pub is_whole : (first last : ℕ) → List ℕ → Bool
is_whole first last [] = false
is_whole first last (v ∷ vs) = (v == first) && (is_spaced 1 v vs && (last_of v vs == last))

-- the list is one run of three or more
abbrev pub is_run : List ℕ → Bool
is_run [] = false
is_run (v ∷ vs) = nat_le 2 (length vs) && is_spaced 1 v vs

-- the smallest count of evenly spaced numbers that are said as steps
abbrev pub least_steps : ℕ
least_steps = 8

-- the numbers are said as steps: at least eight, evenly spaced by two or more
abbrev pub is_steps : List ℕ → Bool
is_steps [] = false
is_steps (v ∷ []) = false
is_steps (v ∷ w ∷ more) =
    nat_le least_steps (length (v ∷ w ∷ more)) && (nat_le (v + 2) w && is_spaced (w - v) w more)

-- numbers as steps
abbrev pub steps_of : List ℕ → Values
steps_of [] = Items []
steps_of (v ∷ []) = Items []
steps_of (v ∷ w ∷ more) = Steps v (last_of w more) (w - v)

-- how numbers are said
abbrev pub values_said : List ℕ → Values
values_said values = if is_steps values then steps_of values else Items (items values)
