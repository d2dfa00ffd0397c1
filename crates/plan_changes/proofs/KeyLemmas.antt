-- The keys of starts, and what is counted of them: for the loops of `push_lacking`.
use Rattle.std.proofs.Common.{◌≡◌, ◌≢◌, ℕ, zero, suc, ◌+◌, ◌-◌, ◌<◌, ◌≤◌, ◌⊎◌, Bool, true, false, cond, not, ◌==◌, List, [], ◌∷◌, ◌++◌, length, take, get_or, None, Some, refl, ap, sym, ◌∙◌, arith, subst, inl, inr, take_all, append-nil}
use Rattle.std.specs.Prelude.{nat_le, nat_lt, replicate, slice_get, slice_index_or, slice_set}
use Rattle.std.specs.Str.{bytes_eq}
use Rattle.std.proofs.lemmas.Bool.{and_from, and_left, and_parts, and_right, cases_eq, cases_lt, eq-eqb, eqb-true, ne_eqb}
use Rattle.std.proofs.lemmas.Bool.Decides.{nat_tests, same_from_decides}
use Rattle.std.proofs.lemmas.List.{get_or-set_other, get_or-set_same, length-append, length-set, length-take}
use Rattle.std.proofs.lemmas.Option.{get_or_from_slice_get, slice_get-get_or}
use Rattle.std.proofs.lemmas.List.Sums.{count_by-le-length, count_by_more_no}
use Rattle.std.proofs.lemmas.Slice.Eq.{bytes_eq-Decides}
use Rattle.plan_baseline.specs.Line.{Line}
use Rattle.plan_changes.specs.declared.change.Change.{Change}
use Rattle.plan_changes.specs.declared.change.ChangeKind.{ChangeKind}
use Rattle.plan_changes.specs.declared.counts.Count.{Count}
use Rattle.plan_changes.specs.declared.keys.Key.{Key}
use Rattle.plan_changes.specs.Changes.{AreAscending, copies, is_lacking, is_same}
use Rattle.plan_changes.specs.Counts.{left, no_count}
use Rattle.plan_changes.specs.Keys.{AreEachOnce, AreInOrder, AreKeysOf, AreUsable, HaveStayed, IsKeyOf, copies_of, is_same_key}
use Rattle.plan_changes.proofs.CompareLemmas.{change_if}
use Rattle.plan_changes.proofs.CountLemmas.{count_next, fewer_of_all, times, within_list}

-- ---- copies of a start are copies of its key

-- no key
abbrev pub no_key : Key
no_key = record { second = 0; runs = 0 }

same_key :
    (texts : List (List ℕ)) (one other : Line) (key next : Key) → AreEachOnce texts → IsKeyOf texts one key → IsKeyOf texts other next →
    is_same one other ≡ is_same_key key next
same_key texts one other key next once (second, runs) (also, run) =
    same_from_decides {P = (key.second ≡ next.second) × (key.runs ≡ next.runs)} (is_same one other) (is_same_key key next) (
      λ is. (let (seconds, texts_are) = and_parts (one.second == other.second) (bytes_eq one.runs other.runs) is in (
        second ∙ eqb-true one.second other.second seconds ∙ sym also,
        once key.runs next.runs other.runs (runs ∙ ap Some ((bytes_eq-Decides one.runs other.runs).0 texts_are)) run,
      )),
      λ both. and_from (one.second == other.second) (bytes_eq one.runs other.runs)
          (eq-eqb one.second other.second (sym second ∙ both.0 ∙ also))
          ((bytes_eq-Decides one.runs other.runs).1
          (some_same one.runs other.runs (sym runs ∙ ap (slice_get texts) both.1 ∙ run))),
    ) (
      λ is. (let (seconds, numbers) = and_parts (key.second == next.second) (key.runs == next.runs) is in
          (eqb-true key.second next.second seconds, eqb-true key.runs next.runs numbers)),
      λ both. and_from (key.second == next.second) (key.runs == next.runs) (eq-eqb key.second next.second both.0)
          (eq-eqb key.runs next.runs both.1),
    )
  where
    some_same : (x y : List ℕ) → Some x ≡ Some y → x ≡ y
    some_same x y is = cc

-- as many of the first starts are the same as one as keys are
first_copies :
    (texts : List (List ℕ)) (line : Line) (key : Key) (lines : List Line) (keys : List Key) (n : ℕ) → AreEachOnce texts →
    IsKeyOf texts line key → AreKeysOf texts lines keys → n ≤ length keys → copies line (take n lines) ≡ copies_of key (take n keys)
first_copies texts line key lines keys zero once is are le = refl
first_copies texts line key lines keys (suc n) once is are le =
    let next = get_or keys n no_key in
    let there = slice_get-get_or keys n no_key (omega arith) in
    let (other, own, keyed) = are.are n next there in
    let same = same_key texts line other key next once is keyed in
    let rest = first_copies texts line key lines keys n once is are (omega arith) in
    let more : n + 1 ≡ suc n = omega arith in
    subst (λ k. copies line (take k lines) ≡ copies_of key (take k keys)) more
    (count_next (is_same line) lines n other own ∙ (λ i. rest i + times (same i)) ∙ sym (count_next (is_same_key key) keys n next there))

all_copies :
    (texts : List (List ℕ)) (line : Line) (key : Key) (lines : List Line) (keys : List Key) → AreEachOnce texts → IsKeyOf texts line key →
    AreKeysOf texts lines keys → copies line lines ≡ copies_of key keys
all_copies texts line key lines keys once is are =
    ap (copies line) (sym (take_all (length keys) lines (omega (arith, are.many))))
    ∙ first_copies texts line key lines keys (length keys) once is are (omega arith)
    ∙ ap (copies_of key) (take_all (length keys) keys (omega arith))

-- ---- what is left

-- what is left after the count of a key was set
abbrev after_set : (key other : Key) → (n : ℕ) → List Count → ℕ
after_set key other n counts = left (slice_set counts key.runs (record { second = key.second; left = n })) other

set_same :
    (key other : Key) (n : ℕ) (counts : List Count) → key.runs < length counts → is_same_key other key ≡ true → after_set key other n counts ≡ n
set_same key other n counts within is =
    let (seconds, numbers) = and_parts (other.second == key.second) (other.runs == key.runs) is in
    let place : other.runs ≡ key.runs = eqb-true other.runs key.runs numbers in
    let new : Count = record { second = key.second; left = n } in
    let there : get_or (slice_set counts key.runs new) other.runs no_count ≡ new =
    ap (λ k. get_or (slice_set counts key.runs new) k no_count) place ∙ get_or-set_same counts key.runs new no_count within in
    let at : (key.second == other.second) ≡ true = eq-eqb key.second other.second (sym (eqb-true other.second key.second seconds)) in
    (λ i. cond ((there i).second == other.second) (there i).left 0) ∙ ap (λ is. cond is n 0) at

set_number :
    (key other : Key) (n : ℕ) (counts : List Count) → key.runs < length counts → other.runs ≡ key.runs → other.second ≢ key.second →
    after_set key other n counts ≡ 0
set_number key other n counts within place differ =
    let new : Count = record { second = key.second; left = n } in
    let there : get_or (slice_set counts key.runs new) other.runs no_count ≡ new =
    ap (λ k. get_or (slice_set counts key.runs new) k no_count) place ∙ get_or-set_same counts key.runs new no_count within in
    let at : (key.second == other.second) ≡ false = ne_eqb key.second other.second (λ e. differ (sym e)) in
    (λ i. cond ((there i).second == other.second) (there i).left 0) ∙ ap (λ is. cond is n 0) at

set_other :
    (key other : Key) (n : ℕ) (counts : List Count) → other.runs ≢ key.runs → after_set key other n counts ≡ left counts other
set_other key other n counts differ =
    let new : Count = record { second = key.second; left = n } in
    let there = get_or-set_other counts key.runs other.runs new no_count differ in
    λ i. cond ((there i).second == other.second) (there i).left 0

-- ---- starts that were counted

-- the key at a place
abbrev pub key_in : List Key → (place : ℕ) → Key
key_in keys place = slice_index_or keys place no_key

-- the others before a place were added, and the keys before another place taken away: `low` is no earlier than these, and no later
-- than the others that follow
pub record IsCounted (others keys : List Key) (at place low : ℕ) (counts : List Count) : Type 0 where
  pub inside : at ≤ length others
  pub lefts : (key : Key) → low ≤ key.second → left counts key ≡ copies_of key (take at others) - copies_of key (take place keys)
  pub seen : (i : ℕ) → i < at → (key_in others i).second ≤ low
  pub coming : (i : ℕ) → at ≤ i → i < length others → low ≤ (key_in others i).second
  pub done : (i : ℕ) → i < place → (key_in keys i).second ≤ low
  pub paired : (key : Key) → at < length others → (key_in others at).second ≤ key.second →
      copies_of key (take place keys) ≤ copies_of key (take at others)

nothing_left : (n : ℕ) (key : Key) → left (replicate n no_count) key ≡ 0
nothing_left n key =
    (λ i. cond ((none n key.runs i).second == key.second) (none n key.runs i).left 0) ∙ zero_or_zero (0 == key.second)
  where
    none : (n place : ℕ) → get_or (replicate n no_count) place no_count ≡ no_count
    none zero place = refl
    none (suc n) zero = refl
    none (suc n) (suc place) = none n place

    zero_or_zero : (is : Bool) → cond {A = ℕ} is 0 0 ≡ 0
    zero_or_zero true = refl
    zero_or_zero false = refl

pub none_counted : (others keys : List Key) (n : ℕ) (counts : List Count) → counts ≡ replicate n no_count → IsCounted others keys 0 0 0 counts
none_counted others keys n counts are = record {
  inside = omega arith;
  lefts = λ key low. ap (λ cs. left cs key) are ∙ nothing_left n key;
  seen = λ i lt. absurd (omega arith);
  coming = λ i from lt. omega arith;
  done = λ i lt. absurd (omega arith);
  paired = λ key within late. omega arith;
}

-- no key of an earlier second is a copy
no_copies :
    (key : Key) (keys : List Key) (n : ℕ) → n ≤ length keys → ((i : ℕ) → i < n → (key_in keys i).second < key.second) →
    copies_of key (take n keys) ≡ 0
no_copies key keys zero le early = refl
no_copies key keys (suc n) le early =
    let here : is_same_key key (get_or keys n no_key) ≡ false =
    and_left _ _ (ne_eqb key.second (get_or keys n no_key).second (λ e. (let lt = early n (omega arith) in omega (arith, lt)))) in
    let next : n + 1 ≡ suc n = omega arith in
    ap (λ k. copies_of key (take k keys)) (sym next) ∙ count_by_more_no (is_same_key key) keys n no_key (omega arith) here
    ∙ no_copies key keys n (omega arith) (λ i lt. early i (omega arith))

-- after the last copy of a key there are no more
no_more_copies :
    (key : Key) (keys : List Key) (at more : ℕ) → at + more ≤ length keys →
    ((i : ℕ) → at ≤ i → i < length keys → key.second < (key_in keys i).second) →
    copies_of key (take (at + more) keys) ≡ copies_of key (take at keys)
no_more_copies key keys at zero le late = ap (λ k. copies_of key (take k keys)) (omega arith)
no_more_copies key keys at (suc more) le late =
    let here : is_same_key key (get_or keys (at + more) no_key) ≡ false =
    and_left _ _ (ne_eqb key.second (get_or keys (at + more) no_key).second
    (λ e. (let lt = late (at + more) (omega arith) (omega arith) in omega (arith, lt)))) in
    let next : at + suc more ≡ (at + more) + 1 = omega arith in
    ap (λ k. copies_of key (take k keys)) next ∙ count_by_more_no (is_same_key key) keys (at + more) no_key (omega arith) here
    ∙ no_more_copies key keys at more (omega arith) late

-- a key is the same as another, or has another number, or another second
data_cases : (key other : Key) → (key ≡ other) ⊎ ((key.runs ≢ other.runs) ⊎ ((key.runs ≡ other.runs) × (key.second ≢ other.second)))
data_cases key other = elim (cases_eq key.runs other.runs) [
  | inl runs ↦ elim (cases_eq key.second other.second) [
    | inl second ↦ inl (λ i. record { second = second i; runs = runs i })
    | inr differ ↦ inr (inr (runs, differ))
  ]
  | inr differ ↦ inr (inl differ)
]

is_own : (key : Key) → is_same_key key key ≡ true
is_own key = and_from (key.second == key.second) (key.runs == key.runs) (eq-eqb key.second key.second refl) (eq-eqb key.runs key.runs refl)

other_number : (key other : Key) → key.runs ≢ other.runs → is_same_key key other ≡ false
other_number key other differ = and_right _ _ (ne_eqb key.runs other.runs differ)

other_second : (key other : Key) → key.second ≢ other.second → is_same_key key other ≡ false
other_second key other differ = and_left _ _ (ne_eqb key.second other.second differ)

strict : (a b : ℕ) → a ≤ b → b ≢ a → a < b
strict a b le differ = elim (cases_lt a b) [
  | inl lt ↦ lt
  | inr ge ↦ absurd (differ (omega arith))
]

-- no key before a place is later than the one there
up_to :
    (keys : List Key) (place : ℕ) (key : Key) → AreInOrder keys → slice_get keys place ≡ Some key → (i : ℕ) → i ≤ place →
    (key_in keys i).second ≤ key.second
up_to keys place key ordered at i le =
    subst (λ k. (key_in keys i).second ≤ k.second) (get_or_from_slice_get keys place key no_key at)
    (ordered i place no_key le (within_list keys place key at))

-- no key after a place is earlier than the one there
pub from_on :
    (keys : List Key) (place : ℕ) (key : Key) → AreInOrder keys → slice_get keys place ≡ Some key → (i : ℕ) → place ≤ i →
    i < length keys → key.second ≤ (key_in keys i).second
from_on keys place key ordered at i le lt =
    subst (λ k. k.second ≤ (key_in keys i).second) (get_or_from_slice_get keys place key no_key at) (ordered place i no_key le lt)

-- the next of the others isn't earlier than what was counted
pub low_before :
    (others keys : List Key) (at place low : ℕ) (counts : List Count) (other : Key) → slice_get others at ≡ Some other →
    IsCounted others keys at place low counts → low ≤ other.second
low_before others keys at place low counts other is counted =
    subst (λ o. low ≤ o.second) (get_or_from_slice_get others at other no_key is)
    (counted.coming at (omega arith) (within_list others at other is))

-- from the next of the others on, no key has more copies that were taken away than were added
few_before :
    (others keys : List Key) (at place low : ℕ) (counts : List Count) (other key : Key) → slice_get others at ≡ Some other →
    IsCounted others keys at place low counts → other.second ≤ key.second →
    copies_of key (take place keys) ≤ copies_of key (take at others)
few_before others keys at place low counts other key is counted le =
    counted.paired key (within_list others at other is)
    (subst (λ o. o.second ≤ key.second) (sym (get_or_from_slice_get others at other no_key is)) le)

-- one more of the others is added
pub added_more :
    (others keys : List Key) (at place low : ℕ) (counts : List Count) (other : Key) → AreInOrder others →
    slice_get others at ≡ Some other → other.runs < length counts → IsCounted others keys at place low counts →
    IsCounted others keys (at + 1) place other.second
    (slice_set counts other.runs (record { second = other.second; left = left counts other + 1 }))
added_more others keys at place low counts other ordered is within counted = record {
  inside = omega (arith, within_list others at other is);
  lefts = lefts;
  seen = λ i before. up_to others at other ordered is i (omega arith);
  coming = λ i from before. from_on others at other ordered is i (omega arith) before;
  done = λ i before. (let early = counted.done i before in omega (arith, early, low_le));
  paired = λ key inside late.
      let next = from_on others at other ordered is (at + 1) (omega arith) inside in
      let few = few_before others keys at place low counts other key is counted (omega (arith, next, late)) in
      omega (arith, few, count_next (is_same_key key) others at other is);
}
  where
    low_le : low ≤ other.second
    low_le = low_before others keys at place low counts other is counted

    lefts : (key : Key) → other.second ≤ key.second →
        after_set other key (left counts other + 1) counts ≡ copies_of key (take (at + 1) others) - copies_of key (take place keys)
    lefts key le =
        let more = count_next (is_same_key key) others at other is in
        let old = counted.lefts key (omega (arith, low_le, le)) in
        elim (data_cases key other) [
          | inl same ↦
              let own = ap (λ k. is_same_key k other) same ∙ is_own other in
              let set = set_same other key (left counts other + 1) counts within own in
              let few = few_before others keys at place low counts other key is counted le in
              omega (arith, set, more, ap times own, few, old, ap (left counts) same)
          | inr (inl differ) ↦
              let set = set_other other key (left counts other + 1) counts differ in
              omega (arith, set, more, ap times (other_number key other differ), old)
          | inr (inr (runs, differ)) ↦
              let set = set_number other key (left counts other + 1) counts within runs differ in
              let none = no_copies key others at counted.inside
              (λ i before. (let early = counted.seen i before in
              let later = strict other.second key.second le differ in omega (arith, early, low_le, later))) in
              omega (arith, set, more, ap times (other_second key other differ), none)
        ]

-- what is left after one start like a key is taken away, if one was left
abbrev pub after_taken : (taken : Bool) → (key : Key) → List Count → List Count
after_taken taken key counts =
    cond taken (slice_set counts key.runs (record { second = key.second; left = left counts key - 1 })) counts

none_left : (n : ℕ) → nat_lt 0 n ≡ false → n ≡ 0
none_left n none = grind (arith, nat_tests)

-- one more of the keys is taken away
pub taken_more :
    (others keys : List Key) (at place low : ℕ) (counts : List Count) (key : Key) (taken : Bool) → low ≤ key.second → AreInOrder others →
    AreInOrder keys → (at < length others → key.second < (key_in others at).second) → slice_get keys place ≡ Some key →
    key.runs < length counts → taken ≡ nat_lt 0 (left counts key) → IsCounted others keys at place low counts →
    IsCounted others keys at (place + 1) key.second (after_taken taken key counts)
taken_more others keys at place low counts key taken low_le ordered in_order passed is within answer counted = record {
  inside = counted.inside;
  lefts = lefts taken answer;
  seen = λ i before. (let early = counted.seen i before in omega (arith, early, low_le));
  coming = λ i from before.
      let first = passed (omega arith) in
      let later = ordered at i no_key from before in
      omega (arith, first, later);
  done = λ i before. up_to keys place key in_order is i (omega arith);
  paired = λ other inside le.
      let few = counted.paired other inside le in
      let differ : other.second ≢ key.second = λ same. (let first = passed inside in omega (arith, first, le, same)) in
      omega (arith, few, count_next (is_same_key other) keys place key is, ap times (other_second other key differ));
}
  where
    lefts : (taken : Bool) → taken ≡ nat_lt 0 (left counts key) → (other : Key) → key.second ≤ other.second →
        left (after_taken taken key counts) other ≡ copies_of other (take at others) - copies_of other (take (place + 1) keys)
    lefts taken answer other le =
        let old = counted.lefts other (omega (arith, low_le, le)) in
        let more = count_next (is_same_key other) keys place key is in
        elim (data_cases other key) [
          | inl same ↦
              let own = ap (λ k. is_same_key k key) same ∙ is_own key in
              let new = taken_same taken answer own (ap (left counts) same) in
              omega (arith, more, ap times own, old, new)
          | inr (inl differ) ↦ omega (arith, more, ap times (other_number other key differ), old, taken_other taken differ)
          | inr (inr (runs, differ)) ↦
              let none = no_copies other others at counted.inside
              (λ i before. (let early = counted.seen i before in
              let later = strict key.second other.second le differ in omega (arith, early, low_le, later))) in
              let new = taken_number taken runs differ in
              omega (arith, more, ap times (other_second other key differ), old, none, new)
        ]
      where
        taken_same : (taken : Bool) → taken ≡ nat_lt 0 (left counts key) → is_same_key other key ≡ true → left counts other ≡ left counts key →
            left (after_taken taken key counts) other ≡ left counts other - 1
        taken_same true answer same own = set_same key other (left counts key - 1) counts within same ∙ ap (λ n. n - 1) (sym own)
        taken_same false answer same own = (let none : left counts key ≡ 0 = none_left (left counts key) (sym answer) in omega (arith, own, none))

        taken_other : (taken : Bool) → other.runs ≢ key.runs → left (after_taken taken key counts) other ≡ left counts other
        taken_other true differ = set_other key other (left counts key - 1) counts differ
        taken_other false differ = refl

        taken_number : (taken : Bool) → other.runs ≡ key.runs → other.second ≢ key.second →
            (left (after_taken taken key counts) other ≡ 0) ⊎ (left (after_taken taken key counts) other ≡ left counts other)
        taken_number true runs differ = inl (set_number key other (left counts key - 1) counts within runs differ)
        taken_number false runs differ = inr refl

-- one more of both is the same key
pub paired_more :
    (others keys : List Key) (at place low : ℕ) (counts : List Count) (key : Key) → AreInOrder others → AreInOrder keys →
    slice_get others at ≡ Some key → slice_get keys place ≡ Some key → IsCounted others keys at place low counts →
    IsCounted others keys (at + 1) (place + 1) key.second counts
paired_more others keys at place low counts key ordered in_order also is counted = record {
  inside = omega (arith, within_list others at key also);
  lefts = λ other le.
      let old = counted.lefts other (omega (arith, low_before others keys at place low counts key also counted, le)) in
      omega (arith, old, count_next (is_same_key other) others at key also, count_next (is_same_key other) keys place key is);
  seen = λ i before. up_to others at key ordered also i (omega arith);
  coming = λ i from before. from_on others at key ordered also i (omega arith) before;
  done = λ i before. up_to keys place key in_order is i (omega arith);
  paired = λ other inside le.
      let next = from_on others at key ordered also (at + 1) (omega arith) inside in
      let few = few_before others keys at place low counts key other also counted (omega (arith, next, le)) in
      omega (arith, few, count_next (is_same_key other) others at key also, count_next (is_same_key other) keys place key is);
}

not_lacking : (m k : ℕ) → k < m → false ≡ nat_le m k
not_lacking m k lt = grind (arith, nat_tests)

-- a start isn't lacking if the next of the others is the same
pub paired_by_keys :
    (texts : List (List ℕ)) (lines other_lines : List Line) (keys others : List Key) (at place low : ℕ) (counts : List Count) (key : Key)
    (line : Line) → AreEachOnce texts → AreKeysOf texts lines keys → AreKeysOf texts other_lines others → IsKeyOf texts line key →
    slice_get others at ≡ Some key → slice_get keys place ≡ Some key → IsCounted others keys at place low counts →
    false ≡ is_lacking other_lines lines place line
paired_by_keys texts lines other_lines keys others at place low counts key line once are are_others own also is counted =
    let few = few_before others keys at place low counts key key also counted (omega arith) in
    let more = count_next (is_same_key key) others at key also in
    let most = fewer_of_all (is_same_key key) others (at + 1) in
    let here = first_copies texts line key lines keys place once own are (omega (arith, within_list keys place key is)) in
    let all = all_copies texts line key other_lines others once own are_others in
    not_lacking (copies line other_lines) (copies line (take place lines)) (omega (arith, few, more, ap times (is_own key), most, here, all))

lacks : (m k n : ℕ) → n ≡ m - k → not (nat_lt 0 n) ≡ nat_le m k
lacks m k n is = grind (arith, nat_tests)

-- a start is lacking if none like it is left
pub lacking_by_keys :
    (texts : List (List ℕ)) (lines other_lines : List Line) (keys others : List Key) (at place low : ℕ) (counts : List Count) (key : Key)
    (line : Line) (taken : Bool) → AreEachOnce texts → AreKeysOf texts lines keys → AreKeysOf texts other_lines others →
    IsKeyOf texts line key → low ≤ key.second → AreInOrder others → (at < length others → key.second < (key_in others at).second) →
    slice_get keys place ≡ Some key → taken ≡ nat_lt 0 (left counts key) → IsCounted others keys at place low counts →
    not taken ≡ is_lacking other_lines lines place line
lacking_by_keys texts lines other_lines keys others at place low counts key line taken once are are_others own low_le ordered passed is answer
    counted =
    let inside = counted.inside in
    let all : at + (length others - at) ≡ length others = omega (arith, inside) in
    let whole : take (at + (length others - at)) others ≡ others =
    ap (λ n. take n others) all ∙ take_all (length others) others (let same : length others ≤ length others = omega arith in same) in
    let no_more : copies_of key others ≡ copies_of key (take at others) =
    ap (copies_of key) (sym whole)
    ∙ no_more_copies key others at (length others - at) (let le : at + (length others - at) ≤ length others = omega (arith, all) in le) late in
    let here = first_copies texts line key lines keys place once own are (omega (arith, within_list keys place key is)) in
    let there = all_copies texts line key other_lines others once own are_others in
    let rest = counted.lefts key low_le in
    let more : left counts key ≡ copies line other_lines - copies line (take place lines) = omega (arith, here, there, rest, no_more) in
    ap not answer ∙ lacks (copies line other_lines) (copies line (take place lines)) (left counts key) more
  where
    late : (i : ℕ) → at ≤ i → i < length others → key.second < (key_in others i).second
    late i from before =
        let first = passed (omega arith) in
        let later = ordered at i no_key from before in
        omega (arith, first, later)

-- no more of a start are left than were added
pub left_few :
    (others keys : List Key) (at place low : ℕ) (counts : List Count) (key : Key) → low ≤ key.second → IsCounted others keys at place low counts →
    left counts key ≤ at
left_few others keys at place low counts key le counted =
    let rest = counted.lefts key le in
    let few = count_by-le-length (is_same_key key) (take at others) in
    let len = length-take at others in
    omega (arith, rest, few, len)

-- there is one key at a place
pub one_key : (keys : List Key) (place : ℕ) (one other : Key) → slice_get keys place ≡ Some one → slice_get keys place ≡ Some other → one ≡ other
one_key keys place one other is also = cc

pub still_as_many : (taken : Bool) (key : Key) (counts : List Count) → length (after_taken taken key counts) ≡ length counts
still_as_many true key counts = length-set counts key.runs _
still_as_many false key counts = refl

-- the change of a start that isn't left is appended
pub pushed_if :
    (taken : Bool) (kind : ChangeKind) (place second : ℕ) (line : Line) (old new : List Change) → taken ≡ false → second ≡ line.second →
    new ≡ old ++ record { second = second; kind = kind; place = place } ∷ [] → new ≡ old ++ change_if (not taken) kind place line
pushed_if taken kind place second line old new not_taken own pushed =
    pushed ∙ (λ i. old ++ record { second = own i; kind = kind; place = place } ∷ [])
    ∙ ap (λ is. old ++ change_if (not is) kind place line) (sym not_taken)

pub pushed_none :
    (taken : Bool) (kind : ChangeKind) (place : ℕ) (line : Line) (old new : List Change) → taken ≡ true → new ≡ old →
    new ≡ old ++ change_if (not taken) kind place line
pushed_none taken kind place line old new taken_is same =
    same ∙ sym (append-nil old) ∙ ap (λ is. old ++ change_if (not is) kind place line) (sym taken_is)

-- ---- the keys of all starts

-- keys stay those of their starts
pub stay_keys : (old new : List (List ℕ)) (lines : List Line) (keys : List Key) → HaveStayed old new → AreKeysOf old lines keys → AreKeysOf new lines keys
stay_keys old new lines keys stay are = record {
  many = are.many;
  are = λ place key at. (let (line, own, (second, runs)) = are.are place key at in (line, own, (second, stay key.runs line.runs runs)));
}

-- the keys of the starts before a place, and texts that stayed
pub record AreKeyed (first texts : List (List ℕ)) (lines : List Line) (place : ℕ) (keys : List Key) : Type 0 where
  pub many : length keys ≡ place
  pub are : (i : ℕ) (key : Key) → slice_get keys i ≡ Some key → (line : Line) × (slice_get lines i ≡ Some line) × IsKeyOf texts line key
  pub stay : HaveStayed first texts

pub none_keyed : (texts : List (List ℕ)) (lines : List Line) (keys : List Key) → keys ≡ [] → AreKeyed texts texts lines 0 keys
none_keyed texts lines keys none = record {
  many = ap length none;
  are = λ i key at. (let no : None ≡ Some key = sym (ap (λ (ks : List Key). slice_get ks i) none) ∙ at in cc);
  stay = λ number text is. is;
}

-- what is at a place of a list after a push
pushed_at :
    (keys : List Key) (key other : Key) (i : ℕ) → slice_get (keys ++ key ∷ []) i ≡ Some other →
    (slice_get keys i ≡ Some other) ⊎ ((i ≡ length keys) × (key ≡ other))
pushed_at [] key other zero is = inr (refl, cc)
pushed_at [] key other (suc i) is = absurd cc
pushed_at (k ∷ keys) key other zero is = inl is
pushed_at (k ∷ keys) key other (suc i) is = elim (pushed_at keys key other i is) [
  | inl before ↦ inl before
  | inr (last, same) ↦ inr (ap suc last, same)
]

-- one more key
pub one_keyed :
    (first texts next : List (List ℕ)) (lines : List Line) (place : ℕ) (keys more : List Key) (line : Line) (key : Key) →
    Some line ≡ slice_get lines place → IsKeyOf next line key → HaveStayed texts next → more ≡ keys ++ key ∷ [] →
    AreKeyed first texts lines place keys → AreKeyed first next lines (place + 1) more
one_keyed first texts next lines place keys more line key at own stay pushed so_far = record {
  many = omega (arith, ap length pushed, length-append keys (key ∷ []), so_far.many);
  are = λ i other is. elim (pushed_at keys key other i (ap (λ ks. slice_get ks i) (sym pushed) ∙ is)) [
    | inl before ↦ (let (one, its, (second, runs)) = so_far.are i other before in
        (one, its, (second, stay other.runs one.runs runs)))
    | inr (last, same) ↦
        (line, ap (slice_get lines) (last ∙ so_far.many) ∙ sym at, subst (IsKeyOf next line) same own)
  ];
  stay = λ number text is. stay number text (so_far.stay number text is);
}

pub all_keyed :
    (first texts : List (List ℕ)) (lines : List Line) (place : ℕ) (keys : List Key) → place ≡ length lines → AreKeyed first texts lines place keys →
    AreKeysOf texts lines keys
all_keyed first texts lines place keys all so_far = record { many = so_far.many ∙ all; are = so_far.are }

second_at :
    (texts : List (List ℕ)) (lines : List Line) (keys : List Key) (i : ℕ) (key : Key) (line : Line) → AreKeysOf texts lines keys → i < length keys →
    (get_or keys i key).second ≡ (get_or lines i line).second
second_at texts lines keys i key line are lt =
    let (one, own, keyed) = are.are i (get_or keys i key) (slice_get-get_or keys i key lt) in
    keyed.0 ∙ ap (λ (l : Line). l.second) (sym (get_or_from_slice_get lines i one line own))

-- the keys of starts in order are in order
pub keys_in_order :
    (texts : List (List ℕ)) (lines : List Line) (keys : List Key) → AreKeysOf texts lines keys → AreAscending lines → AreInOrder keys
keys_in_order texts lines keys are ascending = λ i j key le lt.
    let line : Line = record { second = 0; job = []; runs = [] } in
    let many = are.many in
    let order = ascending i j line le (omega (arith, many, lt)) in
    let one = second_at texts lines keys i key line are (omega arith) in
    let other = second_at texts lines keys j key line are lt in
    omega (arith, order, one, other)

-- the keys of starts in order can be counted, by the number of texts
pub keys_usable :
    (texts : List (List ℕ)) (count : ℕ) (lines : List Line) (keys : List Key) → count ≡ length texts → AreKeysOf texts lines keys →
    AreAscending lines → AreUsable count keys
keys_usable texts count lines keys is are ascending = record {
  ordered = keys_in_order texts lines keys are ascending;
  below = λ place key at. (let (line, own, keyed) = are.are place key at in
      let within = within_list texts key.runs line.runs keyed.1 in
      omega (arith, within, is));
}
