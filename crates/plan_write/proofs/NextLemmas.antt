-- Starts that are written one after another: for the loop of `write_next`. The starts of its rule after a time are a
-- list, of which each turn of the loop writes one more (`listed_more`). At the end, the first `count` of them are
-- written (`lists_all`), or all, and the line `none` (`lists_fewer`).
use Rattle.std.proofs.Common.{◌≡◌, ℕ, ◌+◌, ◌<◌, ◌≤◌, true, List, [], ◌∷◌, ◌++◌, length, take, drop, nat_lt, refl, ap, sym, ◌∙◌, arith, append-nil, take_all, get_or, length-drop}
use Rattle.std.specs.List.{flat_map}
use Rattle.std.proofs.lemmas.Bool.{lt-ltb, le-ltb}
use Rattle.std.proofs.lemmas.List.{drop_more, length-take}
use Rattle.plan_write.specs.Next.{moment_line, none_line, starts_text}
use Rattle.plan_write.specs.declared.formats.Format.{Format}
use Rattle.plan_write.proofs.TakesLemmas.{texts_more}
use Rattle.std.proofs.lemmas.Bool.Decides.{nat_tests}

-- one more line
pub listed_more :
    (format : Format) (all later : List ℕ) (k n : ℕ) → drop k all ≡ n ∷ later →
    (flat_map (moment_line format) (take k all) ++ moment_line format n ≡ flat_map (moment_line format) (take (k + 1) all))
    × (later ≡ drop (k + 1) all)
    × (k + 1 ≤ length all)
listed_more format all later k n is =
    let inside : k < length all = omega (arith, length-drop k all, ap length is) in
    let left : n ∷ later ≡ get_or all k n ∷ drop (k + 1) all = sym is ∙ drop_more all k n inside in
    let first : n ≡ get_or all k n = cc in
    let rest : later ≡ drop (k + 1) all = cc in
    (texts_more (moment_line format) all k n n inside first, rest, omega arith)

-- as many starts as requested
pub lists_all :
    (format : Format) (all : List ℕ) (count : ℕ) → count ≤ length all → flat_map (moment_line format) (take count all)
    ≡ starts_text format count (take count all)
unfolding starts_text
lists_all format all count many = grind (arith, nat_tests, le-ltb, length-take, append-nil)

-- fewer starts, with the line `none`
pub lists_fewer :
    (format : Format) (all : List ℕ) (k count : ℕ) → k < count → drop k all ≡ [] →
    flat_map (moment_line format) (take k all) ++ none_line format ≡ starts_text format count (take count all)
unfolding starts_text
lists_fewer format all k count few none =
    let long : length all ≤ k = omega (arith, length-drop k all, ap length none) in
    let written : take k all ≡ all = take_all k all long in
    let first : take count all ≡ all = take_all count all (omega (arith, long)) in
    let short : nat_lt (length all) count ≡ true = lt-ltb _ _ (omega (arith, long)) in
    rw (written, first, short) refl
