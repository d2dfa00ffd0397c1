-- The tree of a list of paths is complete.
use Rattle.std.specs.Prelude.{◌≡◌, ℕ, suc, ◌+◌, ◌-◌, true, not, ◌&&◌, ◌==◌, List, [], ◌∷◌, ◌++◌, length, drop, take, get_or}
use Rattle.std.specs.Borrow.{Bor}
use Rattle.std.specs.List.{suffix_len}
use Rattle.std.proofs.Common.{sym, ap, ap₂, ◌∙◌, arith, append_assoc, length-append, ne_eqb, take_all}
use Rattle.std.proofs.lemmas.Bool.{cond-true, or_parts}
use Rattle.std.proofs.lemmas.List.{drop-append-le, drop_all, get_or-append-add, take-append-le}
use Rattle.std.proofs.lemmas.List.Sums.{suffix_len_is}
use Rattle.plan_tree.specs.declared.few.Few.{Few}
use Rattle.plan_tree.specs.Complete.{IsComplete, LacksSlash}
use Rattle.plan_tree.specs.Few.{few_at, held_in, is_left_out, lacks, names_of_few}
use Rattle.plan_tree.specs.Place.{last_name, parent}
use Rattle.plan_tree.specs.Tree.{path_below}

-- the last name of the path of a name in a directory is as long as that name
last_len : (dir name : List ℕ) → LacksSlash name → suffix_len (λ b. not (b == 47)) (path_below dir name) ≡ length name
last_len dir name slashless =
    let path = path_below dir name in
    let long : length path ≡ length dir + (1 + length name) = omega (arith, length-append dir (47 ∷ name)) in
    suffix_len_is (λ b. not (b == 47)) path (length dir + 1) 0 (omega arith)
    (λ k low inside.
    let j = k - (length dir + 1) in
    let place : length dir + suc j ≡ k = omega arith in
    let at : get_or path k 0 ≡ get_or name j 0 =
    ap (λ i. get_or path i 0) (sym place) ∙ get_or-append-add dir (47 ∷ name) (suc j) 0 in
    ap not (ne_eqb (get_or path k 0) 47 (λ is. slashless j (omega arith) (sym at ∙ is))))
    (λ some.
    let place : length dir + 1 - 1 ≡ length dir + 0 = omega arith in
    ap (λ b. not (b == 47)) (ap (λ i. get_or path i 0) place ∙ get_or-append-add dir (47 ∷ name) 0 0))
    ∙ omega arith

parent_is : (dir name : List ℕ) → LacksSlash name → parent (path_below dir name) ≡ dir
parent_is dir name slashless =
    let place : length (path_below dir name) - suffix_len (λ b. not (b == 47)) (path_below dir name) - 1 ≡ length dir =
    omega (arith, last_len dir name slashless, length-append dir (47 ∷ name)) in
    ap (λ n. take n (path_below dir name)) place
    ∙ take-append-le (length dir) dir (47 ∷ name) (omega arith)
    ∙ take_all (length dir) dir (omega arith)

last_is : (dir name : List ℕ) → LacksSlash name → last_name (path_below dir name) ≡ name
last_is dir name slashless =
    let place : length (path_below dir name) - suffix_len (λ b. not (b == 47)) (path_below dir name) ≡ length dir + 1 =
    omega (arith, last_len dir name slashless, length-append dir (47 ∷ name)) in
    let long : length (dir ++ 47 ∷ []) ≡ length dir + 1 = length-append dir (47 ∷ []) in
    ap (λ n. drop n (path_below dir name)) place
    ∙ ap (drop (length dir + 1)) (sym (append_assoc dir (47 ∷ []) name))
    ∙ drop-append-le (length dir + 1) (dir ++ 47 ∷ []) name (omega arith)
    ∙ ap (λ front. front ++ name) (drop_all (length dir + 1) (dir ++ 47 ∷ []) (omega arith))

-- each name that a listing lacks is missing
pub few_complete : (entries : List (Bor (List ℕ) × Few)) → IsComplete (held_in entries)
few_complete entries = λ dir names name whole searchable ordinary absent.
    let some : not (length name == 0) ≡ true = ap not (or_parts (length name == 0) _ ordinary.1).0 in
    let left : is_left_out entries (path_below dir name) ≡ true =
    ap₂ (λ d n. not (length n == 0) && lacks (names_of_few (few_at entries d)) n)
    (parent_is dir name ordinary.0) (last_is dir name ordinary.0)
    ∙ ap (λ listing. not (length name == 0) && lacks listing name) whole ∙ ap₂ (λ a b. a && not b) some absent in
    cond-true _ _ _ left
