-- Starts in a stretch of time in which a clock has one row, from what a pattern matches; and parts of time without
-- starts.
-- For `first_in_stretch`, `first_hope` and `first_by_clock`.
use Rattle.std.proofs.Common.{◌≡◌, ℕ, ◌+◌, ◌-◌, ◌<◌, ◌≤◌, Bool, true, false, min, max, Option, None, Some, [], inl, inr, sym, ap, subst, ◌∙◌, arith}
use Rattle.std.proofs.lemmas.Bool.Decides.{nat_tests}
use Rattle.std.specs.Option.{option_map}
use Rattle.std.proofs.lemmas.Bool.{cases_lt}
use Rattle.std.proofs.lemmas.Int.{ints}
use Rattle.plan_clock.specs.declared.row.Row.{Row}
use Rattle.plan_clock.specs.Rows.{is_bounded, most_offset, natural, row_at, shown, unshown}
use Rattle.plan_sets.specs.Limits.{end_second}
use Rattle.plan_next.specs.declared.search.Pattern.{Pattern}
use Rattle.plan_next.specs.declared.zone.Plain.{Plain}
use Rattle.plan_next.specs.Search.{admits_moment, clock_of, heeds, matches_shown, starts_by, IsHope, IsPlain}
use Rattle.plan_next.specs.Starts.{first_counted, starts_in, NoneIn, IsLeastIn, IsFirstIn}
use Rattle.plan_next.proofs.FirstLemmas.{IsFirstIn-same}
use Rattle.plan_next.proofs.RowLemmas.{far-none, found_in_row, natural-above, plain_from}
use Rattle.plan_next.proofs.StartsLemmas.{admits_moment-shown, starts_by-utc}

-- what is shown after the planner's years doesn't match
matches_shown-after : (pattern : Pattern) (m : ℕ) → end_second ≤ m → matches_shown pattern m ≡ false
matches_shown-after pattern m given = grind (arith, nat_tests)

-- the first matching second that counts, moved back, is the first start
pub found_in_stretch :
    (pattern : Pattern) (row : Row) (from upto low high : ℕ) (answer : Option ℕ) → row.second ≤ from → from < upto →
    low ≡ first_counted row (heeds pattern row) from → high ≡ min (natural (shown row upto)) end_second →
    IsFirstIn (admits_moment pattern) low high answer →
    IsFirstIn (starts_in row (heeds pattern row) (matches_shown pattern)) from upto
    (option_map (λ m. max (natural (unshown row m)) from) answer)
found_in_stretch pattern row from upto low high answer begun part low_is high_is first =
    let above = natural-above (shown row upto) in
    found_in_row row (heeds pattern row) (matches_shown pattern) from upto low high answer begun part low_is (omega arith)
    (λ m over under. matches_shown-after pattern m (omega (arith, ints)))
    (IsFirstIn-same (admits_moment pattern) (matches_shown pattern) low high answer
    (λ m before. admits_moment-shown pattern m (omega arith)) first)

-- if nothing within 26 hours matches, there is no start
far_start :
    (pattern : Pattern) (n : ℕ) → ((n : ℕ) → is_bounded (row_at (clock_of pattern) n) ≡ true) →
    ((m : ℕ) → n ≤ m + most_offset → m ≤ n + most_offset → m < end_second → admits_moment pattern m ≡ false) →
    starts_by pattern n ≡ false
far_start pattern n bounded none =
    let row = row_at (clock_of pattern) n in
    far-none row (heeds pattern row) (matches_shown pattern) n (bounded n)
    (λ m after before. elim (cases_lt m end_second) [
      | inl within ↦ sym (admits_moment-shown pattern m within) ∙ none m after before within
      | inr past ↦ matches_shown-after pattern m past
    ])

pub hope_none :
    (pattern : Pattern) (from end earliest latest : ℕ) → ((n : ℕ) → is_bounded (row_at (clock_of pattern) n) ≡ true) → from ≤ end →
    earliest ≡ from - most_offset → latest ≡ min end_second (end + most_offset) → NoneIn (admits_moment pattern) earliest latest →
    IsHope pattern from end end
hope_none pattern from end earliest latest bounded part low high none = record {
  after = part;
  within = omega arith;
  near = λ early. absurd (omega arith);
  none = λ n after before. far_start pattern n bounded (λ m down up within. none m (omega arith) (omega arith));
}

pub hope_some :
    (pattern : Pattern) (from end earliest found hope : ℕ) → ((n : ℕ) → is_bounded (row_at (clock_of pattern) n) ≡ true) → from ≤ end →
    earliest ≡ from - most_offset → hope ≡ max from (min end (found - most_offset)) →
    IsLeastIn (admits_moment pattern) earliest end_second found → IsHope pattern from end hope
hope_some pattern from end earliest found hope bounded part low is (above, years, admits, none) = record {
  after = omega arith;
  within = omega arith;
  near = λ early. (found, omega arith, omega arith, sym (admits_moment-shown pattern found years) ∙ admits);
  none = λ n after before. far_start pattern n bounded (λ m down up within. none m (omega arith) (omega arith));
}

-- what matches is in the planner's years
matches_shown-within : (pattern : Pattern) (m : ℕ) → matches_shown pattern m ≡ true → m < end_second
matches_shown-within pattern m matches = grind (arith, nat_tests)

-- the starts from one on, after the second with which its row begins, up to the end of the row
pub plain_part :
    (pattern : Pattern) (row : Row) (start shown_start row_end upto end : ℕ) → row.second < start → start < row_end → row_end ≤ end →
    ((n : ℕ) → start ≤ n → n < row_end → row_at (clock_of pattern) n ≡ row) →
    (row_end < end → (row_at (clock_of pattern) row_end).second ≡ row_end) → starts_by pattern start ≡ true →
    shown_start ≡ natural (shown row start) → upto ≡ min row_end (start + (end_second - shown_start)) →
    IsPlain pattern start end (record { shown = shown_start; upto = upto })
plain_part pattern row start shown_start row_end upto end after before within same next starts shown_is upto_is =
    let here : starts_in row (heeds pattern row) (matches_shown pattern) start ≡ true = subst
    (λ (row : Row). starts_in row (heeds pattern row) (matches_shown pattern) start ≡ true)
    (same start (omega arith) before) starts in
    let none_after : start + 0 ≡ start = omega arith in
    let matches = sym (plain_from row (heeds pattern row) (matches_shown pattern) start 0 after here) ∙ ap
    (λ n. starts_in row (heeds pattern row) (matches_shown pattern) n) none_after ∙ here in
    let years = matches_shown-within pattern (natural (shown row start) + 0) matches in
    record {
      before = omega arith;
      within = omega arith;
      whole = λ early fits.
          (let is : row_end ≡ upto = omega arith in
          subst (λ (second : ℕ). (row_at (clock_of pattern) second).second ≡ second) is (next (omega arith)));
      years = omega arith;
      same = λ k lt.
          ap (λ (row : Row). starts_in row (heeds pattern row) (matches_shown pattern) (start + k))
          (same (start + k) (omega arith) (omega arith))
          ∙ plain_from row (heeds pattern row) (matches_shown pattern) start k after here
          ∙ ap (λ n. matches_shown pattern (n + k)) (sym shown_is);
    }

-- without a clock, that holds for the whole part
pub plain_utc :
    (pattern : Pattern) (start end : ℕ) → clock_of pattern ≡ [] → start < end → end ≤ end_second →
    IsPlain pattern start end (record { shown = start; upto = end })
plain_utc pattern start end none before years = record {
  before = before;
  within = omega arith;
  whole = λ early within. omega arith;
  years = omega arith;
  same = λ k lt. starts_by-utc pattern (start + k) none;
}

-- the first of the later starts of such a part, from what it shows
pub IsFirstIn-moved :
    (test other : ℕ → Bool) (start shown upto a : ℕ) (answer : Option ℕ) → start ≤ upto →
    ((k : ℕ) → start + k < upto → other (start + k) ≡ test (shown + k)) → IsFirstIn test (shown + a) (shown + (upto - start)) answer →
    IsFirstIn other (start + a) upto (option_map (λ m. start + (m - shown)) answer)
IsFirstIn-moved test other start shown upto a None part same none = λ n low high.
    let there : start + (n - start) ≡ n = omega arith in
    ap other (sym there) ∙ same (n - start) (omega arith) ∙ none (shown + (n - start)) (omega arith) (omega arith)
IsFirstIn-moved test other start shown upto a (Some m) part same (low, high, is, none) =
    let back : shown + (m - shown) ≡ m = omega arith in (
      omega arith,
      omega arith,
      same (m - shown) (omega arith) ∙ ap test back ∙ is,
      λ n from to.
          (let there : start + (n - start) ≡ n = omega arith in
          ap other (sym there) ∙ same (n - start) (omega arith) ∙ none (shown + (n - start)) (omega arith) (omega arith)),
    )

-- what is shown at the start of such a part matches
pub plain_admitted :
    (pattern : Pattern) (start end : ℕ) (part : Plain) → IsPlain pattern start end part → starts_by pattern start ≡ true →
    admits_moment pattern part.shown ≡ true
plain_admitted pattern start end part plain starts =
    let before = plain.before in
    let years = plain.years in
    let here : start + 0 ≡ start = omega arith in
    let there : part.shown + 0 ≡ part.shown = omega arith in
    admits_moment-shown pattern part.shown (omega arith)
    ∙ ap (matches_shown pattern) (sym there)
    ∙ sym (plain.same 0 (omega arith))
    ∙ ap (starts_by pattern) here
    ∙ starts

-- the next start in it, from the next matching second
pub plain_next :
    (pattern : Pattern) (start end : ℕ) (part : Plain) (answer : Option ℕ) → IsPlain pattern start end part →
    IsFirstIn (admits_moment pattern) (part.shown + 1) (part.shown + (part.upto - start)) answer →
    IsFirstIn (starts_by pattern) (start + 1) part.upto (option_map (λ m. start + (m - part.shown)) answer)
plain_next pattern start end part answer plain first =
    let before = plain.before in
    let years = plain.years in
    IsFirstIn-moved (matches_shown pattern) (starts_by pattern) start part.shown part.upto 1 answer (omega arith) plain.same
    (IsFirstIn-same (admits_moment pattern) (matches_shown pattern) (part.shown + 1) (part.shown + (part.upto - start)) answer
    (λ n lt. admits_moment-shown pattern n (omega arith)) first)

-- an answer in the first part is an answer in both
pub IsLeastIn-longer : (test : ℕ → Bool) (a b c n : ℕ) → b ≤ c → IsLeastIn test a b n → IsLeastIn test a c n
IsLeastIn-longer test a b c n le (low, high, is, none) = (low, omega arith, is, none)
