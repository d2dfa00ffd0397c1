-- The lines that were read so far, and the rest of the text.
use Rattle.std.proofs.Common.{◌≡◌, ℕ, suc, ◌+◌, ◌-◌, ◌<◌, ◌≤◌, List, [], ◌∷◌, ◌++◌, length, map, take, drop, None, Some, Ok, Err, All, ap, arith, refl, subst, sym, ◌∙◌}
use Rattle.std.proofs.lemmas.List.{append-nil, append_assoc, get_or_append_left, length-append, map-append, take-append-drop}
use Rattle.std.proofs.lemmas.List.Elements.{All-head, All-nil, All-push, All-tail, All-weaker}
use Rattle.plan_baseline.specs.declared.lines.Place.{Place}
use Rattle.plan_baseline.specs.declared.tails.Tail.{Tail}
use Rattle.plan_baseline.specs.declared.fault.BaselineFault.{BaselineFault}
use Rattle.plan_baseline.specs.declared.fault.BaselineFault.TheVariants.{BadLine, NoMemory}
use Rattle.plan_baseline.specs.Line.{IsPlace, Line, line_at, line_with, no_tail}
use Rattle.plan_baseline.specs.Reading.{AreRead, AreReadAfter, BeginsWithLine, BeginsWithTime, Head, IsFaultOf, IsLineRead, Lines, after_line, at_end}
use Rattle.plan_baseline.specs.Tails.{IsEnd, IsTail, IsTailRead}
use Rattle.plan_baseline.proofs.TailLemmas.{line_is, rest_end, time_end}

-- lines are put before those that are read later
abbrev pub before : List Line → Lines → Lines
before lines (Ok later) = Ok (lines ++ later)
before lines (Err number) = Err number

before-none : (read : Lines) → read ≡ before [] read
before-none (Ok lines) = refl
before-none (Err number) = refl

before-more : (lines : List Line) (line : Line) (later : Lines) → before lines (after_line line later) ≡ before (lines ++ line ∷ []) later
before-more lines line (Ok later) = ap Ok (sym (append_assoc lines (line ∷ []) later))
before-more lines line (Err number) = refl

-- one line more is read
pub one_more :
    (left number upto from : ℕ) (text : List ℕ) (line : Line) (rest : List ℕ) (later : Lines) → BeginsWithLine from upto text line rest →
    AreRead left (number + 1) upto line.second rest later → AreRead (suc left) number upto from text (after_line line later)
unfolding AreRead
one_more left number upto from text line rest later begins are = (Some (line, rest), begins, (later, are, refl))

no_more :
    (left number upto from : ℕ) (text : List ℕ) → IsLineRead from upto text None → AreRead (suc left) number upto from text (Err number)
unfolding AreRead
no_more left number upto from text none = (None, none, refl)

not_at_end : (number : ℕ) (text : List ℕ) → 0 < length text → at_end number text ≡ Err number
not_at_end number [] some = absurd (omega (arith, some))
not_at_end number (b ∷ more) some = refl

pub all_read : (number upto from : ℕ) (text : List ℕ) → AreRead 0 number upto from text (at_end number text)
unfolding AreRead
all_read number upto from text = refl

-- ---- the lines of places

-- a place is that of the same line where more tails are put after the others
line_kept :
    (text : List ℕ) (tails added : List Tail) (place : Place) → IsPlace tails place → line_at text (tails ++ added) place ≡ line_at text tails place
line_kept text tails added place is = ap (line_with text place.second) (get_or_append_left tails added no_tail place.tail is)

lines_kept :
    (text : List ℕ) (tails added : List Tail) (places : List Place) → All (IsPlace tails) places →
    map (line_at text (tails ++ added)) places ≡ map (line_at text tails) places
lines_kept text tails added [] are = refl
lines_kept text tails added (place ∷ places) are = λ i.
    line_kept text tails added place (All-head (IsPlace tails) place places are) i
    ∷ lines_kept text tails added places (All-tail (IsPlace tails) place places are) i

-- after so many lines: what is left of the text, the second of the last, the tails that were met, and the places of all
pub record IsAt (text : List ℕ) (start : ℕ) (head : Head) (number from : ℕ) (left : List ℕ) (tails : List Tail) (places : List Place) : Type 0 where
  pub end : IsEnd text left
  pub few : number ≤ head.count
  pub tails_are : All (IsTail text) tails
  pub places_are : All (IsPlace tails) places
  pub goes_on :
      (read : Lines) → AreRead (head.count - number) (number + 2) head.span.upto from left read →
      AreReadAfter head (drop start text) (before (map (line_at text tails) places) read)

begun_at :
    (text : List ℕ) (start : ℕ) (head : Head) (left : List ℕ) → left ≡ drop start text → IsAt text start head 0 head.span.since left [] []
begun_at text start head left is =
    let all : head.count - 0 ≡ head.count = omega arith in
    record {
      end = (take start text, sym (take-append-drop start text) ∙ ap (λ t. take start text ++ t) (sym is));
      few = omega arith;
      tails_are = All-nil (IsTail text);
      places_are = All-nil (IsPlace []);
      goes_on = λ read are. subst (AreReadAfter head (drop start text)) (before-none read)
          (subst (λ t. AreRead head.count 2 head.span.upto head.span.since t read) is
          (subst (λ k. AreRead k 2 head.span.upto head.span.since left read) all are));
    }

pub begun :
    (text : List ℕ) (start : ℕ) (head : Head) (from : ℕ) (left : List ℕ) (tails : List Tail) (places : List Place) → from ≡ head.span.since →
    left ≡ drop start text → tails ≡ [] → places ≡ [] → IsAt text start head 0 from left tails places
begun text start head from left tails places since is no_tails no_places =
    subst (λ t. IsAt text start head 0 from left t places) (sym no_tails)
    (subst (IsAt text start head 0 from left []) (sym no_places)
    (subst (λ second. IsAt text start head 0 second left [] []) (sym since) (begun_at text start head left is)))

module _ (text : List ℕ) (start : ℕ) (head : Head) (number from : ℕ) (left : List ℕ) (tails : List Tail) (places : List Place)
    (is : IsAt text start head number from left tails places) where
  pub more :
      (second tail : ℕ) (rest after : List ℕ) (later added : List Tail) → number < head.count → BeginsWithTime left second rest →
      (from ≤ second) × (second < head.span.upto) → All (IsTail text) later → later ≡ tails ++ added →
      IsTailRead text later rest (Some (tail, after)) →
      IsAt text start head (number + 1) second after later (places ++ record { second = second; tail = tail } ∷ [])
  more second tail rest after later added short time within are kept (inside, begins) =
      let place : Place = record { second = second; tail = tail } in
      let here : suc (head.count - (number + 1)) ≡ head.count - number = omega (arith, short) in
      let next : number + 1 + 2 ≡ number + 2 + 1 = omega arith in
      let line = line_at text later place in
      let grown : length tails ≤ length later = omega (arith, ap length kept, length-append tails added) in
      let same : map (line_at text later) places ≡ map (line_at text tails) places =
      ap (λ t. map (line_at text t) places) kept ∙ lines_kept text tails added places is.places_are in
      let all : map (line_at text later) (places ++ place ∷ []) ≡ map (line_at text tails) places ++ line ∷ [] =
      map-append (line_at text later) places (place ∷ []) ∙ ap (λ lines. lines ++ line ∷ []) same in
      let read_line : BeginsWithLine from head.span.upto left line after =
      line_is from head.span.upto second left rest line.job line.runs after time begins within.0 within.1 in
      record {
        end = rest_end text rest line.job line.runs after (time_end text left rest second is.end time) begins;
        few = omega (arith, short);
        tails_are = are;
        places_are =
            All-push (IsPlace later) places place
            (All-weaker (IsPlace tails) (IsPlace later) (λ place in_tails. omega (arith, in_tails, grown)) places is.places_are) inside;
        goes_on = λ read are.
            let one = one_more (head.count - (number + 1)) (number + 2) head.span.upto from left line after read
            read_line (subst (λ k. AreRead (head.count - (number + 1)) k head.span.upto second after read) next are) in
            subst (AreReadAfter head (drop start text))
            (before-more (map (line_at text tails) places) line read ∙ ap (λ lines. before lines read) (sym all))
            (is.goes_on (after_line line read)
            (subst (λ k. AreRead k (number + 2) head.span.upto from left (after_line line read)) here one));
      }

  pub bad : number < head.count → IsLineRead from head.span.upto left None → AreReadAfter head (drop start text) (Err (number + 2))
  bad short none =
      let here : suc (head.count - (number + 1)) ≡ head.count - number = omega (arith, short) in
      is.goes_on (Err (number + 2)) (subst (λ k. AreRead k (number + 2) head.span.upto from left (Err (number + 2))) here
      (no_more (head.count - (number + 1)) (number + 2) head.span.upto from left none))

  ended : head.count ≤ number → AreReadAfter head (drop start text) (before (map (line_at text tails) places) (at_end (number + 2) left))
  ended long =
      let here : 0 ≡ head.count - number = omega (arith, long) in
      is.goes_on (at_end (number + 2) left)
      (subst (λ k. AreRead k (number + 2) head.span.upto from left (at_end (number + 2) left)) here
      (all_read (number + 2) head.span.upto from left))

  pub ended_right : head.count ≤ number → left ≡ [] → AreReadAfter head (drop start text) (Ok (map (line_at text tails) places))
  ended_right long past =
      subst (AreReadAfter head (drop start text))
      (ap (before (map (line_at text tails) places)) (ap (at_end (number + 2)) past) ∙ ap Ok (append-nil (map (line_at text tails) places)))
      (ended long)

  pub ended_wrong : head.count ≤ number → 0 < length left → AreReadAfter head (drop start text) (Err (head.count + 2))
  ended_wrong long some =
      let same : number + 2 ≡ head.count + 2 = omega (arith, long, is.few) in
      subst (AreReadAfter head (drop start text))
      (ap (before (map (line_at text tails) places)) (not_at_end (number + 2) left some ∙ ap Err same)) (ended long)

-- an error of one reading is that of another one
pub fault_by : (P Q : ℕ → Type 0) → ((number : ℕ) → P number → Q number) → (fault : BaselineFault) → IsFaultOf P fault → IsFaultOf Q fault
fault_by P Q on NoMemory is = is
fault_by P Q on (BadLine number) is = on number is
