-- The first line that cron reads below the last one that it accepts: for `first_beyond`.
use Rattle.std.proofs.Common.{◌≡◌, ℕ, ◌+◌, ◌<◌, ◌≤◌, Bool, true, false, not, cond, nat_lt, ◌-◌, List, [], ◌∷◌, length, drop, map, Option, Some, None, refl, ap, sym, ◌∙◌, arith}
use Rattle.std.proofs.lemmas.Bool.{lt-ltb, le-ltb}
use Rattle.std.proofs.lemmas.List.{drop-map, drop_all, length-map}
use Rattle.std.specs.List.{position, prefix_len}
use Rattle.std.specs.Option.{option_map}
use Rattle.plan_cron.specs.Lines.{first_beyond, is_read, last_line}

prefix_len-map :
    {A : Type 0} (v : A → List ℕ) (p : List ℕ → Bool) (xs : List A) →
    prefix_len p (map v xs) ≡ prefix_len (λ x. p (v x)) xs
prefix_len-map v p [] = refl
prefix_len-map v p (x ∷ xs) = ap (λ n. cond (p (v x)) (1 + n) 0) (prefix_len-map v p xs)

-- there is a line beyond if not all lines are passed over
pub found_after :
    {A : Type 0} (v : A → List ℕ) (lines : List A) (n : ℕ) →
    n ≡ prefix_len (λ x. not (is_read (v x))) lines → n < length lines → position is_read (map v lines) ≡ Some n
found_after v lines n count inside =
    let same : prefix_len (λ x. not (is_read x)) (map v lines) ≡ n = prefix_len-map v (λ x. not (is_read x)) lines ∙ sym count in
    let long : length (map v lines) ≡ length lines = length-map lines v in
    let less : nat_lt n (length (map v lines)) ≡ true = lt-ltb _ _ (omega arith) in
    (λ i. cond (nat_lt (same i) (length (map v lines))) (Some (same i)) None)
    ∙ ap (λ b. cond b (Some n) None) less

pub none_after :
    {A : Type 0} (v : A → List ℕ) (lines : List A) (n : ℕ) →
    n ≡ prefix_len (λ x. not (is_read (v x))) lines → n ≡ length lines → position is_read (map v lines) ≡ None
none_after v lines n count outside =
    let same : prefix_len (λ x. not (is_read x)) (map v lines) ≡ n = prefix_len-map v (λ x. not (is_read x)) lines ∙ sym count in
    let long : length (map v lines) ≡ length lines = length-map lines v in
    let less : nat_lt n (length (map v lines)) ≡ false = le-ltb _ _ (omega arith) in
    (λ i. cond (nat_lt (same i) (length (map v lines))) (Some (same i)) None)
    ∙ ap (λ b. cond b (Some n) None) less

pub first_beyond-from :
    {A : Type 0} (v : A → List ℕ) (lines beyond : List A) (place : Option ℕ) → beyond ≡ drop last_line lines →
    position is_read (map v beyond) ≡ place → first_beyond (map v lines) ≡ option_map (λ n. last_line + 1 + n) place
first_beyond-from v lines beyond place cut is =
    ap (λ (left : List (List ℕ)). option_map (λ n. last_line + 1 + n) (position is_read left))
    (drop-map v last_line lines ∙ ap (map v) (sym cut))
    ∙ ap (option_map (λ n. last_line + 1 + n)) is

-- there are too few lines
pub no_line_beyond : {A : Type 0} (v : A → List ℕ) (lines : List A) → length lines ≤ last_line → first_beyond (map v lines) ≡ None
no_line_beyond v lines few = first_beyond-from v lines [] None (sym (drop_all last_line lines few)) refl
