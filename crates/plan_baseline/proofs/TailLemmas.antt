-- The time of a line, and what follows it.
use Rattle.std.proofs.Common.{◌≡◌, ℕ, ◌+◌, ◌-◌, ◌<◌, ◌≤◌, ◌==◌, ◌||◌, false, true≢false, List, [], ◌∷◌, ◌++◌, length, take, drop, Option, None, Some, ap, arith, inl, inr, refl, subst, sym, ◌∙◌}
use Rattle.std.proofs.lemmas.Bool.{cases_Bool}
use Rattle.std.proofs.lemmas.Bool.Decides.{nat_tests}
use Rattle.std.proofs.lemmas.List.{append_assoc, drop_at, length-append, take_at}
use Rattle.std.proofs.lemmas.Option.{same_Some}
use Rattle.std.proofs.lemmas.Str.{IsUtf8-append, IsUtf8-from_is_utf8, is_utf8-from_IsUtf8}
use Rattle.std.specs.Str.{IsUtf8, is_utf8}
use Rattle.plan_texts.specs.Text.{after_text, cut_at}
use Rattle.plan_baseline.specs.declared.tails.Tail.{Tail}
use Rattle.plan_baseline.specs.Line.{Line, part}
use Rattle.plan_baseline.specs.ReadBack.{HasNone}
use Rattle.plan_baseline.specs.Reading.{BeginsWithLine, BeginsWithTime, IsLineRead, columns, first_line}
use Rattle.plan_baseline.specs.Tails.{BeginsWithRest, BeginsWithTail, IsEnd, IsRest, IsTail}
use Rattle.plan_baseline.specs.Times.{IsTimeOf}
use Rattle.plan_baseline.proofs.CutLemmas.{cut_again, cut_first, cut_here, cut_later}
use Rattle.plan_baseline.proofs.LineLemmas.{columns_cut, columns_first, line_again, line_first, none_append, tab_utf8}
use Rattle.plan_baseline.proofs.PlainLemmas.{plain_none, plain_utf8, time_plain}
use Rattle.plan_baseline.proofs.TimeLemmas.{time_unique}
use Rattle.plan_baseline.proofs.Utf8Lemmas.{utf8_after_tab}

-- ---- bytes that a text has none of

after_none :
    (mark x : ℕ) (cut : Option (List ℕ × List ℕ)) (a b : List ℕ) → ((f g : List ℕ) → cut ≡ Some (f, g) → HasNone mark f) →
    (x == mark) ≡ false → after_text (x ∷ []) cut ≡ Some (a, b) → HasNone mark a
after_none mark x None a b more here is = absurd (cc is)
after_none mark x (Some (f, g)) a b more here is =
    let first : x ∷ f ≡ a = ap (λ p. p.0) (same_Some _ _ is) in
    let later = more f g refl in
    subst (HasNone mark) first (λ i. here i || later i)

-- what comes before the first such byte of a text has none
pub none_before : (mark : ℕ) (text a b : List ℕ) → cut_at (mark ∷ []) text ≡ Some (a, b) → HasNone mark a
unfolding cut_at
none_before mark [] a b is = absurd (cc is)
none_before mark (x ∷ text) a b is = elim (cases_Bool (x == mark)) [
  | inl here ↦
      let none : [] ≡ a = ap (λ p. p.0) (same_Some _ _ (sym (cut_here mark x text here) ∙ is)) in
      subst (HasNone mark) none refl
  | inr other ↦
      after_none mark x (cut_at (mark ∷ []) text) a b (none_before mark text) other
      (sym (cut_later mark x text (λ here. true≢false (sym here ∙ other))) ∙ is)
]

none_end : (byte : ℕ) (a b : List ℕ) → HasNone byte (a ++ b) → HasNone byte b
none_end byte [] b none = none
none_end byte (x ∷ a) b none =
    let later : HasNone byte (a ++ b) = grind (arith, nat_tests) in
    none_end byte a b later

-- a line has no newline, and is UTF-8
line_none : (text line rest : List ℕ) → first_line text ≡ Some (line, rest) → HasNone 10 line
line_none text line rest is = grind (arith, nat_tests, none_before)

line_utf8 : (text line rest : List ℕ) → first_line text ≡ Some (line, rest) → IsUtf8 line
line_utf8 text line rest is = grind (arith, nat_tests, IsUtf8-from_is_utf8)

-- ---- a line is its time, a tab, and what follows that

-- a text that begins with a line begins with its time, and this follows
line_parts :
    (from upto : ℕ) (text : List ℕ) (line : Line) (after : List ℕ) → BeginsWithLine from upto text line after →
    (rest : List ℕ) × BeginsWithTime text line.second rest × BeginsWithRest rest line.job line.runs after
line_parts from upto text line after (bytes, first, is) =
    let cut = columns_cut bytes is.time line.job line.runs is.columns_are in
    let time_none = plain_none 9 is.time (omega arith) (time_plain is.time line.second is.time_is) in
    let bytes_are : bytes ≡ (is.time ++ 9 ∷ []) ++ cut.0 = cut_again 9 bytes is.time cut.0 cut.1 ∙ sym (append_assoc is.time (9 ∷ []) cut.0) in
    let whole : text ≡ is.time ++ 9 ∷ (cut.0 ++ 10 ∷ after) =
    line_again text bytes after first ∙ ap (λ t. t ++ 10 ∷ after) (cut_again 9 bytes is.time cut.0 cut.1)
    ∙ append_assoc is.time (9 ∷ cut.0) (10 ∷ after) in (
      cut.0 ++ 10 ∷ after,
      (is.time, ap (cut_at (9 ∷ [])) whole ∙ cut_first 9 is.time (cut.0 ++ 10 ∷ after) time_none, is.time_is),
      (
        cut.0,
        refl,
        record {
          whole = cut_again 9 cut.0 line.job line.runs cut.2;
          tab = none_before 9 cut.0 line.job line.runs cut.2;
          newline = none_end 10 (is.time ++ 9 ∷ []) cut.0 (subst (HasNone 10) bytes_are (line_none text bytes after first));
          utf8 =
              utf8_after_tab is.time cut.0
              (subst IsUtf8 (cut_again 9 bytes is.time cut.0 cut.1) (line_utf8 text bytes after first));
        },
      ),
    )

-- a text begins with the line of its time, and what follows that
pub line_is :
    (from upto second : ℕ) (text rest job runs after : List ℕ) → BeginsWithTime text second rest → BeginsWithRest rest job runs after →
    from ≤ second → second < upto → BeginsWithLine from upto text (record { second = second; job = job; runs = runs }) after
line_is from upto second text rest job runs after (time, cut, time_is) (tail, rest_is, is) low high =
    let line = time ++ 9 ∷ (job ++ 9 ∷ runs) in
    let whole : text ≡ line ++ 10 ∷ after =
    cut_again 9 text time rest cut ∙ ap (λ t. time ++ 9 ∷ t) (rest_is ∙ ap (λ t. t ++ 10 ∷ after) is.whole)
    ∙ sym (append_assoc time (9 ∷ (job ++ 9 ∷ runs)) (10 ∷ after)) in
    let plain = time_plain time second time_is in
    let newline : HasNone 10 line =
    none_append 10 time (9 ∷ (job ++ 9 ∷ runs)) (plain_none 10 time (omega arith) plain) (subst (HasNone 10) is.whole is.newline) in
    let utf8 : IsUtf8 line =
    IsUtf8-append time (9 ∷ (job ++ 9 ∷ runs)) (plain_utf8 time plain) (tab_utf8 (job ++ 9 ∷ runs) (subst IsUtf8 is.whole is.utf8)) in (
      line,
      line_first text line after whole newline utf8,
      record {
        time = time;
        columns_are = columns_first time job runs (plain_none 9 time (omega arith) plain) is.tab;
        time_is = time_is;
        after = low;
        before = high;
      },
    )

-- a text that begins with a time begins with no line but one of its second, and what follows the time
line_begins :
    (from upto second : ℕ) (text rest : List ℕ) (line : Line) (after : List ℕ) → BeginsWithTime text second rest →
    BeginsWithLine from upto text line after →
    (line.second ≡ second) × BeginsWithRest rest line.job line.runs after × (from ≤ line.second) × (line.second < upto)
line_begins from upto second text rest line after (time, cut, time_is) begins =
    let parts = line_parts from upto text line after begins in
    let same = same_Some (parts.1.0, parts.0) (time, rest) (sym parts.1.1 ∙ cut) in
    let first : IsTimeOf time line.second = subst (λ t. IsTimeOf t line.second) (λ i. (same i).0) parts.1.2 in (
      time_unique time line.second second first time_is,
      subst (λ t. BeginsWithRest t line.job line.runs after) (λ i. (same i).1) parts.2,
      begins.2.after,
      begins.2.before,
    )

pub no_time :
    (from upto : ℕ) (text : List ℕ) → ((second : ℕ) (rest : List ℕ) → ¬ BeginsWithTime text second rest) → IsLineRead from upto text None
no_time from upto text none = λ line after begins.
    let parts = line_parts from upto text line after begins in
    none line.second parts.0 parts.1

pub other_time :
    (from upto second : ℕ) (text rest : List ℕ) → BeginsWithTime text second rest → (from ≤ second → second < upto → ⊥) →
    IsLineRead from upto text None
other_time from upto second text rest time outside = λ line after begins.
    let is = line_begins from upto second text rest line after time begins in
    outside (omega (arith, is.0, is.2)) (omega (arith, is.0, is.3))

pub no_rest :
    (from upto second : ℕ) (text rest : List ℕ) → BeginsWithTime text second rest →
    ((job runs after : List ℕ) → ¬ BeginsWithRest rest job runs after) → IsLineRead from upto text None
no_rest from upto second text rest time none = λ line after begins.
    let is = line_begins from upto second text rest line after time begins in
    none line.job line.runs after is.1

-- ---- what follows the time of a line

-- that is cut at its newline, and then at its tab
pub rest_cut :
    (text job runs after : List ℕ) → BeginsWithRest text job runs after →
    (rest : List ℕ) × (cut_at (10 ∷ []) text ≡ Some (rest, after)) × (cut_at (9 ∷ []) rest ≡ Some (job, runs)) × IsUtf8 rest
rest_cut text job runs after (rest, whole, is) = (
  rest,
  ap (cut_at (10 ∷ [])) whole ∙ cut_first 10 rest after is.newline,
  ap (cut_at (9 ∷ [])) is.whole ∙ cut_first 9 job runs is.tab,
  is.utf8,
)

pub no_newline : (text : List ℕ) → cut_at (10 ∷ []) text ≡ None → (job runs after : List ℕ) → ¬ BeginsWithRest text job runs after
no_newline text none job runs after begins = absurd (cc (sym none ∙ (rest_cut text job runs after begins).1))

module _ (text line rest : List ℕ) (found : cut_at (10 ∷ []) text ≡ Some (line, rest)) where
  same_rest :
      (job runs after : List ℕ) → BeginsWithRest text job runs after → (cut_at (9 ∷ []) line ≡ Some (job, runs)) × IsUtf8 line
  same_rest job runs after begins =
      let cut = rest_cut text job runs after begins in
      let same : cut.0 ≡ line = ap (λ p. p.0) (same_Some (cut.0, after) (line, rest) (sym cut.1 ∙ found)) in
      (ap (cut_at (9 ∷ [])) (sym same) ∙ cut.2, subst IsUtf8 same cut.3)

  pub no_tab : cut_at (9 ∷ []) line ≡ None → (job runs after : List ℕ) → ¬ BeginsWithRest text job runs after
  no_tab none job runs after begins = absurd (cc (sym none ∙ (same_rest job runs after begins).0))

  pub no_utf8 : is_utf8 line ≡ false → (job runs after : List ℕ) → ¬ BeginsWithRest text job runs after
  no_utf8 test job runs after begins =
      true≢false (sym (is_utf8-from_IsUtf8 line (same_rest job runs after begins).1) ∙ test)

pub rest_is :
    (text rest job runs after : List ℕ) → cut_at (10 ∷ []) text ≡ Some (rest, after) → cut_at (9 ∷ []) rest ≡ Some (job, runs) →
    IsUtf8 rest → IsRest rest job runs
rest_is text rest job runs after line columns utf8 = record {
  whole = cut_again 9 rest job runs columns;
  tab = none_before 9 rest job runs columns;
  newline = none_before 10 text rest after line;
  utf8 = utf8;
}

part_is :
    (text front mid back : List ℕ) (from upto : ℕ) → text ≡ front ++ (mid ++ back) → from ≡ length front → upto ≡ length front + length mid →
    part from upto text ≡ mid
part_is text front mid back from upto whole low high =
    ap (λ t. take (upto - from) (drop from t)) whole
    ∙ ap (take (upto - from)) (drop_at front (mid ++ back) from (sym low))
    ∙ take_at mid back (upto - from) (omega (arith, low, high))

-- where the end of a text has the parts of what it begins with
pub tail_is :
    (text end rest job runs after : List ℕ) (tail : Tail) → IsEnd text end → end ≡ rest ++ 10 ∷ after → IsRest rest job runs →
    tail.job ≡ length text - length end → tail.runs ≡ tail.job + length job + 1 → tail.end ≡ tail.job + length rest →
    IsTail text tail × BeginsWithTail text tail end after
tail_is text end rest job runs after tail (front, text_is) end_is is job_at runs_at end_at =
    let whole : text ≡ front ++ (rest ++ 10 ∷ after) = text_is ∙ ap (λ t. front ++ t) end_is in
    let size = ap length text_is ∙ length-append front end in
    let end_size = ap length end_is ∙ length-append rest (10 ∷ after) in
    let rest_size = ap length is.whole ∙ length-append job (9 ∷ runs) in
    let start : tail.job ≡ length front = omega (arith, size, job_at) in
    let inner : text ≡ front ++ (job ++ 9 ∷ (runs ++ 10 ∷ after)) =
    whole ∙ ap (λ t. front ++ (t ++ 10 ∷ after)) is.whole ∙ ap (λ t. front ++ t) (append_assoc job (9 ∷ runs) (10 ∷ after)) in
    let outer : text ≡ (front ++ (job ++ 9 ∷ [])) ++ (runs ++ 10 ∷ after) =
    inner ∙ ap (λ t. front ++ t) (sym (append_assoc job (9 ∷ []) (runs ++ 10 ∷ after)))
    ∙ sym (append_assoc front (job ++ 9 ∷ []) (runs ++ 10 ∷ after)) in
    let outer_size : length (front ++ (job ++ 9 ∷ [])) ≡ length front + length job + 1 =
    omega (arith, length-append front (job ++ 9 ∷ []), length-append job (9 ∷ [])) in
    let rest_here : part tail.job tail.end text ≡ rest =
    part_is text front rest (10 ∷ after) tail.job tail.end whole start (omega (arith, start, end_at)) in
    let job_here : part tail.job (tail.runs - 1) text ≡ job =
    part_is text front job (9 ∷ (runs ++ 10 ∷ after)) tail.job (tail.runs - 1) inner start (omega (arith, start, runs_at)) in
    let runs_here : part tail.runs tail.end text ≡ runs =
    part_is text (front ++ (job ++ 9 ∷ [])) runs (10 ∷ after) tail.runs tail.end outer (omega (arith, start, runs_at, outer_size))
    (omega (arith, start, end_at, rest_size, outer_size)) in
    let here : IsRest rest (part tail.job (tail.runs - 1) text) (part tail.runs tail.end text) =
    subst (IsRest rest (part tail.job (tail.runs - 1) text)) (sym runs_here) (subst (λ t. IsRest rest t runs) (sym job_here) is) in (
      record {
        job_inside = omega (arith, runs_at);
        runs_inside = omega (arith, runs_at, end_at, rest_size);
        end_inside = omega (arith, start, end_at, size, end_size);
        rest = subst (λ t. IsRest t (part tail.job (tail.runs - 1) text) (part tail.runs tail.end text)) (sym rest_here) here;
      },
      (rest, end_is, here),
    )

-- a text begins with the bytes of a tail and a newline
pub tail_again :
    (text rest same after : List ℕ) (tail : Tail) → IsTail text tail → rest ≡ same ++ 10 ∷ after → same ≡ part tail.job tail.end text →
    BeginsWithTail text tail rest after
tail_again text rest same after tail is rest_is same_is = (part tail.job tail.end text, rest_is ∙ ap (λ t. t ++ 10 ∷ after) same_is, is.rest)

-- ---- the end of a text

pub time_end : (text left rest : List ℕ) (second : ℕ) → IsEnd text left → BeginsWithTime left second rest → IsEnd text rest
time_end text left rest second (front, is) (time, cut, time_is) = (
  front ++ (time ++ 9 ∷ []),
  is ∙ ap (λ t. front ++ t) (cut_again 9 left time rest cut ∙ sym (append_assoc time (9 ∷ []) rest))
      ∙ sym (append_assoc front (time ++ 9 ∷ []) rest),
)

pub rest_end : (text left job runs after : List ℕ) → IsEnd text left → BeginsWithRest left job runs after → IsEnd text after
rest_end text left job runs after (front, is) (rest, left_is, rest_is) = (
  front ++ (rest ++ 10 ∷ []),
  is ∙ ap (λ t. front ++ t) (left_is ∙ sym (append_assoc rest (10 ∷ []) after)) ∙ sym (append_assoc front (rest ++ 10 ∷ []) after),
)
