-- The next sender in line: for `Lanes::take` by Calls.antt, for `run_steps` by Steps.antt, and for `next` in locked.rt.
-- By induction over the senders in turn. If a message of the first sender waits, it is the first of the line. If none
-- waits, both the line and the search for a sender are those of the other senders.
use Rattle.std.proofs.Common.{◌≡◌, ℕ, cond, ltb, List, [], ◌∷◌, ◌++◌, length, map, Option, None, Some, find, refl, sym, ap, ◌∙◌, arith}
use Rattle.std.proofs.lemmas.Bool.Decides.{nat_tests}
use Rattle.std.specs.List.{slice_get}
use Rattle.std.proofs.lemmas.Option.{same_Some, none-some}
use Rattle.std.proofs.lemmas.Bool.{lt-ltb}
use Rattle.plan_mailbox.specs.Turn.{line_of}
use Rattle.std.proofs.lemmas.Grind.{common_steps}

-- the same messages make the same line
pub line_of-same : {M : Type 0} (f g : ℕ → List M) → ((s : ℕ) → f s ≡ g s) → (order : List ℕ) → line_of f order ≡ line_of g order
line_of-same f g given order = grind (arith, nat_tests)

-- the first message in a line is the oldest of its sender
first_among : {M : Type 0} (f : ℕ → List M) (s : ℕ) (ms : List M) (others : List (ℕ × M)) (next : ℕ × M) → f s ≡ ms
    → (slice_get others 0 ≡ Some next → (rest : List M) × (f next.0 ≡ next.1 ∷ rest)) → slice_get
    (map (λ m. (s, m)) ms ++ others) 0 ≡ Some next → (rest : List M) × (f next.0 ≡ next.1 ∷ rest)
first_among f s [] others next here later e = later e
first_among f s (m ∷ ms) others next here later e =
    let same : (s, m) ≡ next = same_Some (s, m) next e in
    (ms, ap f (sym (ap (λ p. p.0) same)) ∙ here ∙ ap (λ p. p.1 ∷ ms) same)

pub first_in_line :
    {M : Type 0} (f : ℕ → List M) (order : List ℕ) (next : ℕ × M) → slice_get (line_of f order) 0 ≡ Some next →
    (rest : List M) × (f next.0 ≡ next.1 ∷ rest)
first_in_line f [] next e = absurd (none-some next e)
first_in_line f (s ∷ order) next e = first_among f s (f s) (line_of f order) next refl (first_in_line f order next) e

-- the first sender with a waiting message gives the first message of the line
found_among :
    {M : Type 0} (f : ℕ → List M) (x : ℕ) (ms : List M) (others : List (ℕ × M)) (found : Option ℕ) (s : ℕ) (m : M) (rest : List M) →
    f x ≡ ms → f s ≡ m ∷ rest
    → (found ≡ Some s → slice_get others 0 ≡ Some (s, m)) → cond (ltb 0 (length ms)) (Some x) found ≡ Some s → slice_get
    (map (λ m. (x, m)) ms ++ others) 0 ≡ Some (s, m)
found_among f x [] others found s m rest here there later e = later e
found_among f x (y ∷ ys) others found s m rest here there later e = grind (arith, nat_tests, same_Some, lt-ltb)

pub next-found :
    {M : Type 0} (f : ℕ → List M) (order : List ℕ) (s : ℕ) (m : M) (rest : List M) → f s ≡ m ∷ rest →
    find (λ t. ltb 0 (length (f t))) order ≡ Some s → slice_get (line_of f order) 0 ≡ Some (s, m)
next-found f [] s m rest there e = absurd (none-some s e)
next-found f (x ∷ order) s m rest there e = grind (arith, nat_tests, common_steps, found_among, next-found f order s m rest there)

-- if no sender has a waiting message, the line is empty
none_among :
    {M : Type 0} (x : ℕ) (ms : List M) (others : List (ℕ × M)) (found : Option ℕ) → (found ≡ None → slice_get others 0 ≡ None) →
    cond (ltb 0 (length ms)) (Some x) found ≡ None → slice_get (map (λ m. (x, m)) ms ++ others) 0 ≡ None
none_among x [] others found later e = later e
none_among x (y ∷ ys) others found later e = grind (arith, nat_tests, none-some, lt-ltb)

pub next-none :
    {M : Type 0} (f : ℕ → List M) (order : List ℕ) → find (λ t. ltb 0 (length (f t))) order ≡ None →
    slice_get (line_of f order) 0 ≡ None
next-none f [] e = refl
next-none f (x ∷ order) e = none_among x (f x) (line_of f order) (find (λ t. ltb 0 (length (f t))) order) (next-none f order) e
