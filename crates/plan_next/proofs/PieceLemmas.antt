-- Starts that are found one after another.
-- For the loop of `first_starts`, whose invariant is `AreFound`, and for `next_piece` (`piece_ordered`). The starts of
-- a part are those before a second, then those at or after it. `full_piece` is hard: there a start remains.
use Rattle.std.proofs.Common.{◌≡◌, ℕ, ◌+◌, ◌-◌, ◌<◌, ◌≤◌, true, false, List, [], ◌∷◌, ◌++◌, length, take, get_or, nat_le, refl, ap, sym, ◌∙◌, arith, append-nil, take_all}
use Rattle.std.proofs.lemmas.Bool.{cases_lt, le-leb, lt-leb}
use Rattle.std.proofs.lemmas.List.{length_push, get_or_append_left, take-append-le}
use Rattle.std.proofs.Math.Seq.{get_or-append_seam}
use Rattle.std.proofs.Common.{length-append}
use Rattle.plan_match.specs.declared.rule.Rule.{Rule}
use Rattle.plan_next.specs.Starts.{NoneIn, IsLeastIn, is_start, starts}
use Rattle.plan_next.specs.Piece.{piece_end, AreFound}
use Rattle.plan_next.specs.StartsLaws.{passing-append, passing-none, passing-least}
use Rattle.std.proofs.lemmas.Bool.Decides.{nat_tests}

no_start_within : (rule : Rule) (second : ℕ) → starts rule second second ≡ []
no_start_within rule second = passing-none (is_start rule) second second (λ n low high. absurd (omega arith))

pub found_none :
    (rule : Rule) (since upto most : ℕ) (found : List ℕ) → found ≡ [] → since ≤ upto → AreFound rule since upto most found since
found_none rule since upto most found is le = grind (arith, nat_tests, no_start_within)

-- one more start, the first after those that were found
pub found_more :
    (rule : Rule) (since upto most n reached : ℕ) (found new : List ℕ) → AreFound rule since upto most found reached →
    IsLeastIn (is_start rule) reached upto n → length found < most → new ≡ found ++ n ∷ [] →
    AreFound rule since upto most new (n + 1)
found_more rule since upto most n reached found new so_far (low, high, is, none) room more =
    let test = is_start rule in
    let from : since ≤ reached = so_far.from in
    let next : starts rule reached (n + 1) ≡ n ∷ [] = passing-least test reached (n + 1) n (low, omega arith, is, none) ∙ ap
    (λ xs. n ∷ xs) (no_start_within rule (n + 1)) in
    let all : found ++ n ∷ [] ≡ starts rule since (n + 1) = sym
    (passing-append test since reached (n + 1) from (omega arith) ∙ ap (λ xs. xs ++ starts rule reached (n + 1))
    (sym so_far.all) ∙ ap (λ xs. found ++ xs) next) in
    let longer = length_push found n in
    let place : length (found ++ n ∷ []) - 1 ≡ length found = omega arith in
    rw more (record {
      from = omega arith;
      to = omega arith;
      few = omega arith;
      all = all;
      last = λ some. (omega arith, ap (λ k. get_or (found ++ n ∷ []) k 0 + 1) place ∙ ap (λ k. k + 1) (get_or-append_seam found n [] 0));
    })

-- the starts of the whole part, from those that were found
starts_after :
    (rule : Rule) (since upto most reached : ℕ) (found rest : List ℕ) → AreFound rule since upto most found reached →
    starts rule reached upto ≡ rest → starts rule since upto ≡ found ++ rest
starts_after rule since upto most reached found rest so_far is =
    passing-append (is_start rule) since reached upto so_far.from so_far.to ∙ ap (λ xs. xs ++ starts rule reached upto)
    (sym so_far.all) ∙ ap (λ xs. found ++ xs) is

-- no start follows them in the part
pub record IsWhole (rule : Rule) (since upto most : ℕ) (found : List ℕ) (end : ℕ) : Type 0 where
  pub end_is : end ≡ piece_end rule since upto most
  pub all : found ≡ starts rule since end
  pub first : found ≡ take most (starts rule since upto)

pub whole_part :
    (rule : Rule) (since upto most reached : ℕ) (found : List ℕ) → AreFound rule since upto most found reached →
    NoneIn (is_start rule) reached upto → IsWhole rule since upto most found upto
whole_part rule since upto most reached found so_far none =
    let all : starts rule since upto ≡ found = starts_after rule since upto most reached found [] so_far
    (passing-none (is_start rule) reached upto none) ∙ append-nil found in
    let few : nat_le (length found) most ≡ true = le-leb _ _ so_far.few in
    record {
      end_is = rw (all, few) refl;
      all = sym all;
      first = rw all (sym (take_all most found so_far.few));
    }

-- the part has more starts than fit into the piece
pub full_piece :
    (rule : Rule) (since upto most reached n : ℕ) (found : List ℕ) → AreFound rule since upto most found reached →
    length found ≡ most → 1 ≤ most → IsLeastIn (is_start rule) reached upto n → IsWhole rule since upto most found reached
full_piece rule since upto most reached n found so_far full some least =
    let rest = starts rule (n + 1) upto in
    let all : starts rule since upto ≡ found ++ n ∷ rest = starts_after rule since upto most reached found (n ∷ rest) so_far
    (passing-least (is_start rule) reached upto n least) in
    let longer = length-append found (n ∷ rest) in
    let more : nat_le (length (found ++ n ∷ rest)) most ≡ false = lt-leb _ _ (omega arith) in
    let place : most - 1 ≡ length found - 1 = omega arith in
    let last : get_or (found ++ n ∷ rest) (most - 1) 0 + 1 ≡ reached = ap (λ k. k + 1)
    (get_or_append_left found (n ∷ rest) 0 (most - 1) (omega arith) ∙ ap (λ k. get_or found k 0) place) ∙
    (so_far.last (omega arith)).1 in
    record {
      end_is = rw (all, more) (sym last);
      all = so_far.all;
      first = rw all (sym (take-append-le most found (n ∷ rest) (omega arith) ∙ take_all most found (omega arith)));
    }

-- a piece does not end before it begins
pub piece_ordered :
    (rule : Rule) (since upto most end : ℕ) → since ≤ upto → end ≡ piece_end rule since upto most → (since < upto → since < end) →
    since ≤ end
piece_ordered rule since upto most end part is moves = grind (arith, nat_tests, cases_lt, passing-none, le-leb)
