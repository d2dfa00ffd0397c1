-- The changes of a zone up to a second, and what one more change does.
-- For `changes_of` and `add_year`.
use Rattle.std.proofs.Common.{◌≡◌, ◌≢◌, ℕ, ◌+◌, ◌-◌, ◌≤◌, ◌<◌, ℤ, true, false, cond, ◌==◌, not, nat_le, List, [], ◌∷◌, ◌++◌, length, refl, sym, ap, subst, ◌∙◌, arith, inl, inr, FitsSigned, to_z, of_z, to_z-of_z, w32}
use Rattle.std.specs.List.{prefix_len}
use Rattle.std.specs.Ordering.{int_eq}
use Rattle.std.proofs.lemmas.Bool.{and_parts}
use Rattle.std.proofs.lemmas.Bool.Decides.{leb_tells, nat_tests, Decides-int_eq}
use Rattle.std.proofs.lemmas.Grind.{common_steps}
use Rattle.std.proofs.lemmas.List.{get_or_past}
use Rattle.std.proofs.lemmas.List.Sums.{prefix_len_is, prefix_len_passes, prefix_len_stops, prefix_len-le-length}
use Rattle.std.proofs.Math.ListN.{get_or-append}
use Rattle.std.proofs.Math.Seq.{get_or-append_seam}
use Rattle.jiff_core.specs.Timestamp.{IsOffsetSeconds}
use Rattle.jiff_core.proofs.SignedLemmas.{signed_arith}
use Rattle.jiff_tz.specs.declared.tzif.Tzif.{Tzif}
use Rattle.plan_clock.specs.declared.row.Change.{Change}
use Rattle.plan_clock.specs.Rows.{is_near, no_change, offset_of, row_at}
use Rattle.plan_zones.specs.Changes.{added, change_at, ends_with_offset, zone_offset, Covers}

-- how many changes are at or before a second
abbrev pub passed_at : List Change → ℕ → ℕ
passed_at changes n = prefix_len (λ (change : Change). nat_le change.second n) changes

-- a change that has passed, and the first that has not
passed_passes : (changes : List Change) (n k : ℕ) → k < passed_at changes n → (change_at changes k).second ≤ n
passed_passes changes n k l = grind (arith, nat_tests, prefix_len_passes)

passed_stops : (changes : List Change) (n : ℕ) → passed_at changes n < length changes → n < (change_at changes (passed_at changes n)).second
passed_stops changes n l = grind (arith, nat_tests, prefix_len_stops)

passed_bound : (changes : List Change) (n : ℕ) → passed_at changes n ≤ length changes
passed_bound changes n = prefix_len-le-length _ changes

-- the number of changes that have passed, from the changes around a second
passed_by :
    (changes : List Change) (n k : ℕ) → k ≤ length changes → ((j : ℕ) → j < k → (change_at changes j).second ≤ n) →
    (k < length changes → n < (change_at changes k).second) → passed_at changes n ≡ k
passed_by changes n k bound passes stops = prefix_len_is (λ (change : Change). nat_le change.second n) changes k no_change bound
    (λ j l. let pass = passes j l in grind (arith, nat_tests))
    (λ l. let stop = stops l in grind (arith, nat_tests))

-- the offset after so many passed changes, at least one
offset_of-passed :
    (changes : List Change) (n k : ℕ) → passed_at changes n ≡ k → 0 < k → offset_of changes n ≡ (change_at changes (k - 1)).offset
unfolding row_at
offset_of-passed changes n k given given₂ = grind (arith, nat_tests)

-- the changes with one more
at_left :
    (changes : List Change) (change : Change) (k : ℕ) → k < length changes → change_at (changes ++ change ∷ []) k ≡ change_at changes k
at_left changes change k l = get_or-append changes (change ∷ []) no_change k l

at_end : (changes : List Change) (change : Change) → change_at (changes ++ change ∷ []) (length changes) ≡ change
at_end changes change = get_or-append_seam changes change [] no_change

length-push : (changes : List Change) (change : Change) → length (changes ++ change ∷ []) ≡ length changes + 1
length-push changes change = grind (arith, common_steps)

-- a property of all changes and of a new one is a property of all changes with the new one
push_all :
    (P : Change → Type 0) (changes : List Change) (change : Change) →
    ((k : ℕ) → k < length changes → P (change_at changes k)) → P change →
    (k : ℕ) → k < length (changes ++ change ∷ []) → P (change_at (changes ++ change ∷ []) k)
push_all P changes change each last k l = grind (arith, nat_tests, common_steps, length-push, leb_tells, at_left, at_end)

-- the same for a property of each change and the next
push_pairs :
    (P : Change → Change → Type 0) (changes : List Change) (change : Change) →
    ((k : ℕ) → k + 1 < length changes → P (change_at changes k) (change_at changes (k + 1))) →
    (0 < length changes → P (change_at changes (length changes - 1)) change) →
    (k : ℕ) → k + 1 < length (changes ++ change ∷ []) →
    P (change_at (changes ++ change ∷ []) k) (change_at (changes ++ change ∷ []) (k + 1))
push_pairs P changes change each last k l = grind (arith, nat_tests, length-push, at_left, leb_tells, at_end)

-- an offset of jiff is less than 26 hours from UTC
near : (offset : ℤ) → IsOffsetSeconds offset → is_near offset ≡ true
near offset h = grind (arith, nat_tests)

push_near :
    (changes : List Change) (change : Change) → ((k : ℕ) → is_near (change_at changes k).offset ≡ true) →
    is_near change.offset ≡ true → (k : ℕ) → is_near (change_at (changes ++ change ∷ []) k).offset ≡ true
push_near changes change each last k = grind (arith, nat_tests, common_steps, leb_tells, push_all, get_or_past)

-- the offset before the new change, and from it on
offset_before :
    (changes : List Change) (change : Change) (n : ℕ) → n < change.second → 0 < passed_at changes n →
    offset_of (changes ++ change ∷ []) n ≡ offset_of changes n
offset_before changes change n h some =
    let more : List Change = changes ++ change ∷ [] in
    let bound = passed_bound changes n in
    let len = length-push changes change in
    let same : passed_at more n ≡ passed_at changes n = passed_by more n (passed_at changes n) (omega arith)
    (λ j l. subst (λ c. c.second ≤ n) (sym (at_left changes change j (omega arith))) (passed_passes changes n j l))
    (λ l. elim (leb_tells (passed_at changes n + 1) (length changes)) [
      | inl before ↦ subst (λ c. n < c.second) (sym (at_left changes change (passed_at changes n) (omega arith)))
          (passed_stops changes n (omega arith))
      | inr at_last ↦
          let end : length changes ≡ passed_at changes n = omega arith in
          subst (λ j. n < (change_at more j).second) end (subst (λ c. n < c.second) (sym (at_end changes change)) h)
    ]) in
    offset_of-passed more n (passed_at changes n) same some
    ∙ ap (λ c. c.offset) (at_left changes change (passed_at changes n - 1) (omega arith))
    ∙ sym (offset_of-passed changes n (passed_at changes n) refl some)

offset_from :
    (changes : List Change) (change : Change) (n : ℕ) → ((k : ℕ) → k < length changes → (change_at changes k).second ≤ n) →
    change.second ≤ n → offset_of (changes ++ change ∷ []) n ≡ change.offset
offset_from changes change n each h =
    let more : List Change = changes ++ change ∷ [] in
    let len = length-push changes change in
    let all : passed_at more n ≡ length changes + 1 = passed_by more n (length changes + 1) (omega arith)
    (λ j l. push_all (λ c. c.second ≤ n) changes change each h j (omega arith))
    (λ l. absurd (omega arith)) in
    let back : length changes + 1 - 1 ≡ length changes = omega arith in
    offset_of-passed more n (length changes + 1) all (omega arith)
    ∙ ap (λ k. (change_at more k).offset) back
    ∙ ap (λ c. c.offset) (at_end changes change)

-- the offset from the last change on
offset_last :
    (changes : List Change) (n : ℕ) → 0 < length changes → ((k : ℕ) → k < length changes → (change_at changes k).second ≤ n) →
    offset_of changes n ≡ (change_at changes (length changes - 1)).offset
offset_last changes n some each = grind (arith, nat_tests, offset_of-passed, passed_by)

-- at each second some change has passed, if there is one at second 0
passed_some : (changes : List Change) (n : ℕ) → 0 < length changes → (change_at changes 0).second ≡ 0 → 0 < passed_at changes n
passed_some changes n some first = grind (arith, nat_tests, common_steps, leb_tells, passed_stops)

-- the changes of a zone up to a second are extended up to a later one, if the offset is the same in between
pub Covers-added :
    (z : Tzif) (changes : List Change) (s e : ℕ) (offset : ℤ) → Covers z changes s → IsOffsetSeconds offset → offset ≡ zone_offset z s →
    s < e →
    ((n : ℕ) → s ≤ n → n < e → zone_offset z n ≡ zone_offset z s) → Covers z (added changes (record { second = s; offset = offset })) e
Covers-added z changes s e offset covers within is later steady =
    let change : Change = record { second = s; offset = offset } in
    let are = covers.are in
    let passed : (n : ℕ) → s ≤ n → (k : ℕ) → k < length changes → (change_at changes k).second ≤ n =
    λ n h k l. let b = covers.before k l in omega arith in
    elim (ends_with_offset changes offset) as
    (λ b. ends_with_offset changes offset ≡ b → Covers z (cond b changes (changes ++ change ∷ [])) e) [
      | true ↦ λ shown.
          let parts = and_parts (not (length changes == 0)) (int_eq (change_at changes (length changes - 1)).offset offset) shown in
          let some : 0 < length changes = grind (arith, nat_tests) in
          let last : (change_at changes (length changes - 1)).offset ≡ offset =
          (Decides-int_eq (change_at changes (length changes - 1)).offset offset).0 parts.1 in
          record {
            some = λ _. some;
            are = are;
            before = λ k l. let b = covers.before k l in omega arith;
            same = λ n l. elim (leb_tells s n) [
              | inl from ↦ offset_last changes n some (passed n from.1) ∙ last ∙ is ∙ sym (steady n from.1 l)
              | inr before ↦ covers.same n before.1
            ];
          }
      | false ↦ λ shown.
          let len = length-push changes change in
          let empty_start : length changes ≡ 0 → s ≡ 0 = λ h. elim (leb_tells 1 s) [
            | inl later ↦ let some = covers.some (omega arith) in absurd (omega arith)
            | inr zero_s ↦ omega arith
          ] in
          let fresh : 0 < length changes → (change_at changes (length changes - 1)).offset ≢ offset = λ some same.
          let filled : (length changes == 0) ≡ false = grind (arith, nat_tests) in
          let equal : int_eq (change_at changes (length changes - 1)).offset offset ≡ true =
          (Decides-int_eq (change_at changes (length changes - 1)).offset offset).1 same in
          let here : ends_with_offset changes offset ≡ true = rw (filled, equal) refl in
          absurd (cc) in
          record {
            some = λ _. omega arith;
            are = record {
              first = λ _. elim (leb_tells 1 (length changes)) [
                | inl filled ↦ ap (λ c. c.second) (at_left changes change 0 (omega arith)) ∙ are.first (omega arith)
                | inr empty ↦
                    let none : length changes ≡ 0 = omega arith in
                    let start : change_at (changes ++ change ∷ []) 0 ≡ change =
                    subst (λ j. change_at (changes ++ change ∷ []) j ≡ change) none (at_end changes change) in
                    ap (λ c. c.second) start ∙ empty_start none
              ];
              ascends = push_pairs (λ a b. a.second < b.second) changes change are.ascends
                  (λ some. covers.before (length changes - 1) (omega arith));
              differs = push_pairs (λ a b. a.offset ≢ b.offset) changes change are.differs fresh;
              bounded = push_near changes change are.bounded (near offset within);
            };
            before = push_all (λ c. c.second < e) changes change (λ k l. let b = covers.before k l in omega arith) later;
            same = λ n l. elim (leb_tells s n) [
              | inl from ↦ offset_from changes change n (passed n from.1) from.1 ∙ is ∙ sym (steady n from.1 l)
              | inr before ↦
                  let some : 0 < length changes = covers.some (omega arith) in
                  offset_before changes change n (omega arith) (passed_some changes n some (are.first some)) ∙ covers.same n (omega arith)
            ];
          }
    ] refl

-- the changes before second 0 are none
pub Covers-none : (z : Tzif) → Covers z [] 0
Covers-none z = grind (arith, nat_tests)

-- an offset is restored from its bits
pub offset-back : (a : ℤ) → IsOffsetSeconds a → to_z w32 (of_z w32 a) ≡ a
offset-back a h = let fits : FitsSigned w32 a = omega (arith, signed_arith) in to_z-of_z fits
