-- Up to the next transition after an instant, and in the same year, the offset of a zone doesn't change.
use Rattle.std.proofs.Common.{◌≡◌, ℕ, ◌-◌, ◌≤◌, ◌<◌, ℤ, pos, neg_ℤ, ◌≤ℤ◌, ◌<ℤ◌, true, false, cond, ◌==◌, int_le, int_lt, length, Option, None, Some, refl, sym, ap, subst, ◌∙◌, arith, vec_len}
use Rattle.std.proofs.lemmas.Bool.Decides.{nat_tests}
use Rattle.std.proofs.lemmas.List.Sums.{prefix_len_passes, prefix_len-le-length}
use borrow.Author.Differences.{lt-true, le-true}
use Rattle.jiff_core.specs.declared.Offset.{Offset}
use Rattle.jiff_core.specs.Timestamp.{nanos_of_seconds}
use Rattle.jiff_core.proofs.SignedLemmas.{signed_arith}
use Rattle.jiff_tz.specs.declared.info.OffsetInfo.{OffsetInfo}
use Rattle.jiff_tz.specs.declared.posix.Dst.{Dst}
use Rattle.jiff_tz.specs.declared.posix.TimeZone.{TimeZone}
use Rattle.jiff_tz.specs.declared.tzif.Tzif.{Tzif}
use Rattle.jiff_tz.specs.PosixRule.{in_window, ordered, transition_of, next_by, next_year, dst_at_by, utc_window, match_some}
use Rattle.jiff_tz.specs.PosixRule as Posix
use Rattle.jiff_tz.specs.Tzif.{transition_at, transition_view, no_transition, count_at, floor_second, rule_after, type_after}
use Rattle.jiff_tz.specs.Tzif as Table
use Rattle.jiff_tz.specs.Year.{year_of_nanos}
use Rattle.jiff_tz.proofs.ZoneTheorems.{count_is}
use Rattle.plan_zones.specs.Changes.{zone_offset, year_at}
use Rattle.plan_sets.specs.Limits.{end_second}

lt_yes : (a b : ℤ) → a <ℤ b → int_lt a b ≡ true
lt_yes a b h = grind (arith, nat_tests)

-- the same, for the ends in order
window_steady :
    (w : ℤ × ℤ) (n m : ℤ) → n ≤ℤ m → (n <ℤ (ordered w).0 → m <ℤ (ordered w).0) → (n <ℤ (ordered w).1 → m <ℤ (ordered w).1) →
    in_window w m ≡ in_window w n
window_steady w n m given given₂ given₃ = grind (arith, nat_tests)

-- the time is before the transition, if there is one
abbrev pub IsBefore : ℤ → Option (ℤ × OffsetInfo) → Type 0
IsBefore m None = Unit {0}
IsBefore m (Some t) = m <ℤ t.0

-- the first and the last instant
abbrev pub first_instant : ℤ
first_instant = neg_ℤ (pos 377_705_023_201_000_000_000)

abbrev pub last_instant : ℤ
last_instant = pos 253_402_207_200_999_999_999

-- an end of a window is a transition, unless it is after the last instant
moment_ahead :
    (tz : TimeZone) (d : Dst) (w : ℤ × ℤ) (x n m : ℤ) → first_instant ≤ℤ n → m ≤ℤ last_instant → n <ℤ x →
    IsBefore m (transition_of tz d w x) → m <ℤ x
moment_ahead tz d w x n m given given₂ given₃ given₄ = grind (arith, nat_tests)

ordered_rises : (w : ℤ × ℤ) → (ordered w).0 ≤ℤ (ordered w).1
ordered_rises w = grind (arith, nat_tests)

-- no end of a year's window is between an instant and a time before the next transition
window_ahead :
    (tz : TimeZone) (d : Dst) (w : ℤ × ℤ) (n m : ℤ) (rest : Option (ℤ × OffsetInfo)) → n ≤ℤ m → first_instant ≤ℤ n → m ≤ℤ last_instant
    → IsBefore m (cond (int_lt n (ordered w).0) (transition_of tz d w (ordered w).0)
    (cond (int_lt n (ordered w).1) (transition_of tz d w (ordered w).1) rest))
    → in_window w m ≡ in_window w n
window_ahead tz d w n m rest up low high before =
    let begin : ℤ = (ordered w).0 in
    let end : ℤ = (ordered w).1 in
    let one = transition_of tz d w begin in
    let two = transition_of tz d w end in
    let to_begin : n <ℤ begin → m <ℤ begin = λ l.
    moment_ahead tz d w begin n m low high l (subst
    (λ b. IsBefore m (cond b one (cond (int_lt n end) two rest))) (lt_yes n begin l) before) in
    let to_end : n <ℤ end → m <ℤ end = λ l. (elim (int_lt n begin) as
    (λ b. int_lt n begin ≡ b → IsBefore m (cond b one (cond (int_lt n end) two rest)) → m <ℤ end) [
      | true ↦ λ e h.
          let under = lt-true n begin e in
          let early : m <ℤ begin = to_begin (omega (arith, signed_arith)) in
          let rise = ordered_rises w in
          omega (arith, signed_arith)
      | false ↦ λ e h. moment_ahead tz d w end n m low high l (subst (λ b. IsBefore m (cond b two rest)) (lt_yes n end l) h)
    ]) refl before in
    window_steady w n m up to_begin to_end

-- a rule's offset up to its next transition, in one year
rule_steady :
    (tz : TimeZone) (n m : ℤ) → n ≤ℤ m → first_instant ≤ℤ n → m ≤ℤ last_instant → year_of_nanos m ≡ year_of_nanos n →
    IsBefore m (Posix.next_at tz n) → Posix.offset_at tz m ≡ Posix.offset_at tz n
rule_steady tz n m up low high year =
    let std = tz.std_offset in
    elim tz.dst as (λ o. IsBefore m (match_some o None (λ d. next_by tz d (year_of_nanos n) n)) →
    match_some (dst_at_by std o m) std (λ d. d.offset) ≡ match_some (dst_at_by std o n) std (λ d. d.offset)) [
      | None ↦ λ before. refl
      | Some d ↦ λ before.
          let w : ℤ × ℤ = utc_window d (year_of_nanos n) std in
          let moved : in_window (utc_window d (year_of_nanos m) std) m ≡ in_window w m = ap (λ y. in_window (utc_window d y std) m) year in
          let same : in_window w m ≡ in_window w n = window_ahead tz d w n m (next_year tz d (year_of_nanos n)) up low high before in
          ap (λ b. match_some (cond b (Some d) None) std (λ d. d.offset)) (moved ∙ same)
    ]

-- the second of an instant at which a second starts
floor_nanos : (s : ℕ) → floor_second (nanos_of_seconds (pos s)) ≡ pos s
floor_nanos s = omega (arith, signed_arith)

-- the offset if that many rows of the table are at or before the instant
abbrev offset_after : Tzif → ℕ → ℤ → Offset
offset_after z c n = match_some (rule_after z c) (type_after z c).offset (λ tz. Posix.offset_at tz n)

-- the offset is the same if the rows are the same and no transition of the rule is in between
after_steady : (z : Tzif) (c : ℕ) (n m : ℤ) → n ≤ℤ m → first_instant ≤ℤ n → m ≤ℤ last_instant → year_of_nanos m ≡ year_of_nanos n
    → (c == vec_len z.transitions ≡ true → IsBefore m (match_some z.posix_tz None (λ tz. Posix.next_at tz n))) →
    offset_after z c m ≡ offset_after z c n
after_steady z c n m up low high year before = grind (arith, nat_tests, rule_steady)

-- a zone's offset up to its next transition, in one year
pub zone_steady :
    (z : Tzif) (s n : ℕ) → s ≤ n → n < end_second → year_at n ≡ year_at s →
    IsBefore (nanos_of_seconds (pos n)) (Table.next_at z (nanos_of_seconds (pos s))) → zone_offset z n ≡ zone_offset z s
zone_steady z s n up in_years year next =
    let at_s : ℤ = nanos_of_seconds (pos s) in
    let at_n : ℤ = nanos_of_seconds (pos n) in
    let c : ℕ = count_at z (pos s) in
    let rows = z.transitions.items in
    let bound : c ≤ length rows = prefix_len-le-length _ rows in
    let before : IsBefore at_n (cond (c == vec_len z.transitions) (match_some z.posix_tz None (λ tz. Posix.next_at tz at_s))
    (Some (transition_view (transition_at z c)))) =
    subst (λ f. IsBefore at_n (cond (count_at z f == vec_len z.transitions) (match_some z.posix_tz None (λ tz. Posix.next_at tz at_s))
    (Some (transition_view (transition_at z (count_at z f)))))) (floor_nanos s) next in
    let passed : 0 < c → (transition_at z (c - 1)).second ≤ℤ pos n = λ l.
    let pass = prefix_len_passes (λ t. int_le t.second (pos s)) rows (c - 1) (no_transition z) (omega arith) in
    let under = le-true (transition_at z (c - 1)).second (pos s) pass in
    omega (arith, signed_arith) in
    let ahead : c < length rows → pos n <ℤ (transition_at z c).second = λ l.
    let some : (c == vec_len z.transitions) ≡ false = grind (arith, nat_tests) in
    let h : at_n <ℤ nanos_of_seconds (transition_at z c).second =
    subst (λ b. IsBefore at_n (cond b (match_some z.posix_tz None (λ tz. Posix.next_at tz at_s))
    (Some (transition_view (transition_at z c))))) some before in
    let t : ℤ = (transition_at z c).second in
    omega (arith, signed_arith) in
    let same : count_at z (pos n) ≡ c = count_is z (pos n) c bound passed ahead in
    let first : offset_after z (count_at z (floor_second at_n)) at_n ≡ offset_after z c at_n =
    ap (λ k. offset_after z k at_n) (ap (count_at z) (floor_nanos n) ∙ same) in
    let last : offset_after z (count_at z (floor_second at_s)) at_s ≡ offset_after z c at_s =
    ap (λ k. offset_after z k at_s) (ap (count_at z) (floor_nanos s)) in
    let steady = after_steady z c at_s at_n (omega (arith, signed_arith)) (omega (arith, signed_arith)) (omega (arith, signed_arith)) year
    (λ e. subst (λ b. IsBefore at_n (cond b (match_some z.posix_tz None (λ tz. Posix.next_at tz at_s))
    (Some (transition_view (transition_at z c))))) e before) in
    ap (λ o. o.seconds) (first ∙ steady ∙ sym last)

-- the same, for what a call returns for the instant at which the second starts
pub zone_steady-some :
    (z : Tzif) (s n : ℕ) (at : ℤ) (t : ℤ × OffsetInfo) → at ≡ nanos_of_seconds (pos s) → Some t ≡ Table.next_at z at → s ≤ n →
    n < end_second → year_at n ≡ year_at s → nanos_of_seconds (pos n) <ℤ t.0 → zone_offset z n ≡ zone_offset z s
zone_steady-some z s n at t at_s is up in_years year before =
    zone_steady z s n up in_years year (subst (λ a. IsBefore (nanos_of_seconds (pos n)) (Table.next_at z a)) at_s
    (subst (IsBefore (nanos_of_seconds (pos n))) is before))

pub zone_steady-none :
    (z : Tzif) (s n : ℕ) (at : ℤ) → at ≡ nanos_of_seconds (pos s) → None ≡ Table.next_at z at → s ≤ n → n < end_second →
    year_at n ≡ year_at s → zone_offset z n ≡ zone_offset z s
zone_steady-none z s n at at_s is up in_years year =
    zone_steady z s n up in_years year (subst (λ a. IsBefore (nanos_of_seconds (pos n)) (Table.next_at z a)) at_s
    (subst (IsBefore (nanos_of_seconds (pos n))) is tt))
