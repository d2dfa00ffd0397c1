-- What planners send, one step at a time (agenda).
use Rattle.std.proofs.Common.{◌≡◌, ℕ, zero, suc, ◌+◌, ◌-◌, ◌%◌, ◌<◌, ◌≤◌, true, false, ◌==◌, nat_lt, nat_le, Bool, List, [], ◌∷◌, ◌++◌, length, map, filter, get_or, inl, inr, refl, ap, sym, ◌∙◌, arith}
use Rattle.std.proofs.Math.ListN.{set}
use Rattle.std.specs.List.{range_with_len}
use Rattle.std.proofs.lemmas.Bool.{cases_lt, cases_Bool, eq-eqb, ne_eqb, lt-ltb, le-ltb, le-leb, lt-leb}
use Rattle.plan_match.specs.declared.rule.Rule.{Rule}
use Rattle.plan_next.specs.Starts.{is_start, starts, passing}
use Rattle.plan_next.specs.Piece.{piece_of, piece_end}
use Rattle.plan_next.specs.StartsLaws.{passing-none}
use Rattle.plan_collect.specs.declared.note.Note.{Note}
use Rattle.plan_collect.specs.declared.note.Note.TheVariants as note
use Rattle.plan_next.specs.Span.{Bounds}
use Rattle.plan_collect.specs.Limits.{most_starts}
use Rattle.plan_collect.specs.Tiling.{pieces_within, pieces, parts_from, starts_in, cut_after}
use Rattle.plan_collect.specs.Windows.{Timing, first_second}

-- a write after a write
pub set_again : (xs : List ℕ) (i a b : ℕ) → set (set xs i a) i b ≡ set xs i b
set_again [] i a b = refl
set_again (x ∷ xs) zero a b = refl
set_again (x ∷ xs) (suc i) a b = ap (λ rest. x ∷ rest) (set_again xs i a b)

-- ---- where pieces end

-- a number that passed a test is in the range
record IsWithin (a end n : ℕ) : Type 0 where
  pub from : a ≤ n
  pub to : n < end

place :
    (a end : ℕ) (xs : List ℕ) (i : ℕ) → a < end → ((k : ℕ) → k < length xs → IsWithin (a + 1) end (get_or xs k 0)) →
    i < length (a ∷ xs) → IsWithin a end (get_or (a ∷ xs) i 0)
place a end xs zero before rest lt = record { from = omega arith; to = before }
place a end xs (suc i) before rest lt =
    let later : IsWithin (a + 1) end (get_or xs i 0) = rest i (omega arith) in
    record { from = omega (arith, later.from); to = later.to }

in_range :
    (test : ℕ → Bool) (n a end : ℕ) → a + n ≡ end → (i : ℕ) → i < length (filter test (range_with_len a n)) →
    IsWithin a end (get_or (filter test (range_with_len a n)) i 0)
in_range test zero a end is i lt = absurd (omega arith)
in_range test (suc n) a end is i lt =
    let rest = in_range test n (a + 1) end (omega arith) in
    elim (cases_Bool (test a)) [
      | inl passes ↦ (
          let inside : i < length (a ∷ filter test (range_with_len (a + 1) n)) = rw passes at lt in
          rw passes (place a end (filter test (range_with_len (a + 1) n)) i (omega arith) rest inside))
      | inr fails ↦ (
          let inside : i < length (filter test (range_with_len (a + 1) n)) = rw fails at lt in
          let later : IsWithin (a + 1) end (get_or (filter test (range_with_len (a + 1) n)) i 0) = rest i inside in
          rw fails (record { from = omega (arith, later.from); to = later.to }))
    ]

-- a piece ends within its part, and not before it starts; in a part that isn't empty it ends later than it starts
pub record EndsPiece (since upto end : ℕ) : Type 0 where
  pub from : since ≤ end
  pub to : end ≤ upto
  pub moves : since < upto → since < end

ends_at :
    (xs : List ℕ) (since upto most : ℕ) → 1 ≤ most → since ≤ upto →
    ((i : ℕ) → i < length xs → IsWithin since upto (get_or xs i 0)) → most < length xs →
    EndsPiece since upto (get_or xs (most - 1) 0 + 1)
ends_at xs since upto most some part within more =
    let last : IsWithin since upto (get_or xs (most - 1) 0) = within (most - 1) (omega arith) in
    record { from = omega (arith, last.from); to = omega (arith, last.to); moves = λ before. omega (arith, last.from) }

pub piece_ends : (rule : Rule) (since upto most : ℕ) → 1 ≤ most → since ≤ upto → EndsPiece since upto (piece_end rule since upto most)
unfolding passing
piece_ends rule since upto most some part =
    let all = starts rule since upto in
    elim (cases_lt most (length all)) [
      | inl more ↦ (
          let not : nat_le (length all) most ≡ false = lt-leb _ _ more in
          rw not (ends_at all since upto most some part
          (λ i lt. in_range (is_start rule) (upto - since) since upto (omega arith) i lt) more))
      | inr few ↦ (
          let is : nat_le (length all) most ≡ true = le-leb _ _ few in
          rw is (record { from = part; to = omega arith; moves = λ before. before }))
    ]

-- a piece of no seconds ends where it starts
pub piece_of_nothing : (rule : Rule) (second most : ℕ) → piece_end rule second second most ≡ second
piece_of_nothing rule second most =
    let none : starts rule second second ≡ [] = passing-none (is_start rule) second second (λ n low high. absurd (omega arith)) in
    let few : nat_le 0 most ≡ true = le-leb 0 most (omega arith) in
    rw (none, few) refl

-- ---- the pieces of a rule

-- the first of some pieces, and whether others follow
pub pieces_last :
    (seconds : ℕ) (rule : Rule) (since upto : ℕ) → nat_lt (piece_end rule since upto most_starts) upto ≡ false →
    pieces_within (suc seconds) rule since upto ≡ piece_of rule since upto most_starts ∷ []
unfolding pieces_within
pieces_last seconds rule since upto is = rw (is, pieces_within) refl

pub pieces_more :
    (seconds : ℕ) (rule : Rule) (since upto : ℕ) → nat_lt (piece_end rule since upto most_starts) upto ≡ true →
    pieces_within (suc seconds) rule since upto ≡ piece_of rule since upto most_starts ∷ pieces_within seconds rule
    (piece_end rule since upto most_starts) upto
unfolding pieces_within
pieces_more seconds rule since upto is = rw (is, pieces_within) refl

pub pieces_one : (rule : Rule) (since upto : ℕ) → pieces_within zero rule since upto ≡ piece_of rule since upto most_starts ∷ []
unfolding pieces_within
pieces_one rule since upto = refl

-- a larger bound than the number of seconds makes no difference
pieces_enough :
    (m n : ℕ) (rule : Rule) (since upto : ℕ) → since ≤ upto → upto - since ≤ m → upto - since ≤ n →
    pieces_within m rule since upto ≡ pieces_within n rule since upto
pieces_enough zero zero rule since upto part few enough = refl
pieces_enough zero (suc n) rule since upto part few enough =
    let whole : since ≡ upto = omega arith in
    let end : piece_end rule since upto most_starts ≡ upto = ap (λ from. piece_end rule from upto most_starts) whole
    ∙ piece_of_nothing rule upto most_starts in
    pieces_one rule since upto ∙ sym (pieces_last n rule since upto (le-ltb _ _ (omega arith)))
pieces_enough (suc m) zero rule since upto part few enough =
    let whole : since ≡ upto = omega arith in
    let end : piece_end rule since upto most_starts ≡ upto = ap (λ from. piece_end rule from upto most_starts) whole
    ∙ piece_of_nothing rule upto most_starts in
    pieces_last m rule since upto (le-ltb _ _ (omega arith)) ∙ sym (pieces_one rule since upto)
pieces_enough (suc m) (suc n) rule since upto part few enough =
    let end = piece_end rule since upto most_starts in
    let ends : EndsPiece since upto end = piece_ends rule since upto most_starts (omega arith) part in
    elim (cases_lt end upto) [
      | inl more ↦ (
          let go_on : nat_lt end upto ≡ true = lt-ltb _ _ more in
          let from = ends.from in
          let moves : since < end = ends.moves (omega arith) in
          let rest : pieces_within m rule end upto ≡ pieces_within n rule end upto = pieces_enough m n rule end upto ends.to
          (omega arith) (omega arith) in
          pieces_more m rule since upto go_on ∙ ap (λ ps. piece_of rule since upto most_starts ∷ ps) rest ∙ sym
          (pieces_more n rule since upto go_on))
      | inr no_more ↦ (
          let stop : nat_lt end upto ≡ false = le-ltb _ _ no_more in
          pieces_last m rule since upto stop ∙ sym (pieces_last n rule since upto stop))
    ]

-- the pieces of a part are its first and, if that ends early, those of the rest
pub pieces_stop :
    (rule : Rule) (since upto : ℕ) → since ≤ upto → upto ≤ piece_end rule since upto most_starts →
    pieces rule since upto ≡ piece_of rule since upto most_starts ∷ []
pieces_stop rule since upto part reached =
    pieces_enough (upto - since) (suc (upto - since)) rule since upto part (omega arith) (omega arith)
    ∙ pieces_last (upto - since) rule since upto (le-ltb _ _ reached)

pub pieces_go_on :
    (rule : Rule) (since upto : ℕ) → since ≤ upto → piece_end rule since upto most_starts < upto →
    pieces rule since upto ≡ piece_of rule since upto most_starts ∷ pieces rule (piece_end rule since upto most_starts) upto
pieces_go_on rule since upto part more =
    let end = piece_end rule since upto most_starts in
    let ends : EndsPiece since upto end = piece_ends rule since upto most_starts (omega arith) part in
    let from = ends.from in
    pieces_enough (upto - since) (suc (upto - since)) rule since upto part (omega arith) (omega arith)
    ∙ pieces_more (upto - since) rule since upto (lt-ltb _ _ more)
    ∙ ap (λ ps. piece_of rule since upto most_starts ∷ ps)
    (pieces_enough (upto - since) (upto - end) rule end upto ends.to (omega arith) (omega arith))

-- ---- the pieces of jobs

pub parts_none : (job k planners : ℕ) (span : Bounds) → parts_from job k planners [] span ≡ []
unfolding parts_from
parts_none job k planners span = refl

pub parts_own :
    (job k planners : ℕ) (timing : Timing) (timings : List Timing) (span : Bounds) → job % planners ≡ k →
    parts_from job k planners (timing ∷ timings) span ≡ map (note.Part job)
    (pieces timing.rule (first_second span timing.delay) span.upto) ++ parts_from (job + 1) k planners timings span
unfolding parts_from
parts_own job k planners timing timings span own = let is : (job % planners == k) ≡ true = eq-eqb _ _ own in rw (is, parts_from) refl

pub parts_other :
    (job k planners : ℕ) (timing : Timing) (timings : List Timing) (span : Bounds) → (job % planners ≡ k → ⊥) →
    parts_from job k planners (timing ∷ timings) span ≡ parts_from (job + 1) k planners timings span
unfolding parts_from
parts_other job k planners timing timings span other = let is : (job % planners == k) ≡ false = ne_eqb _ _ other in rw (is, parts_from) refl

-- ---- a tiling that is cut after the limit

pub cut_here :
    (limit count : ℕ) (note : Note) (notes : List Note) → limit < count + starts_in note →
    cut_after limit count (note ∷ notes) ≡ note ∷ []
unfolding cut_after
cut_here limit count note notes more = let is : nat_lt limit (count + starts_in note) ≡ true = lt-ltb _ _ more in rw (is, cut_after) refl

pub cut_later :
    (limit count : ℕ) (note : Note) (notes : List Note) → count + starts_in note ≤ limit →
    cut_after limit count (note ∷ notes) ≡ note ∷ cut_after limit (count + starts_in note) notes
unfolding cut_after
cut_later limit count note notes few = let is : nat_lt limit (count + starts_in note) ≡ false = le-ltb _ _ few in rw (is, cut_after) refl

pub cut_none : (limit count : ℕ) → cut_after limit count [] ≡ []
unfolding cut_after
cut_none limit count = refl
