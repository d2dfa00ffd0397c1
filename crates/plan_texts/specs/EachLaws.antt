-- How a list is read from left to right: laws of `each`. With them, a loop over a list is proved to read the list.
-- What holds of each part of a reading holds of the whole: of its value (`ok_`), or of its error (`err_`).
use Rattle.std.proofs.Common.{◌≡◌, ℕ, ◌+◌, ◌<◌, Bool, true, false, cond, IfOk, IfErr, List, [], ◌∷◌, ◌++◌, length, take, drop, get_or, map, Option, Some, None, Ok, Err, refl, ap, sym, ◌∙◌, take-append-drop, Result}
use Rattle.std.proofs.lemmas.List.{drop_more, map-append}
use Rattle.std.specs.Iterator.{Yields}
use Rattle.std.proofs.lemmas.Iterator.{YieldsList}
use Rattle.std.proofs.lemmas.Iterator.Consumers.{YieldsList-turn, YieldsList-end, YieldsList-so_far}
use Rattle.plan_texts.specs.Steps.{◌>>=◌, each}

then_ok : {A E : Type 0} (r : Result A E) → (r >>= λ x. Ok x) ≡ r
then_ok (Ok x) = refl
then_ok (Err e) = refl

front_first :
    {A E : Type 0} (y : A) (r s : Result (List A) E) →
    ((r >>= λ xs. s >>= λ ys. Ok (xs ++ ys)) >>= λ zs. Ok (y ∷ zs)) ≡ ((r >>= λ xs. Ok (y ∷ xs)) >>= λ xs. s >>= λ ys. Ok (xs ++ ys))
front_first y (Ok xs) (Ok ys) = refl
front_first y (Ok xs) (Err e) = refl
front_first y (Err e) s = refl

each_cons :
    {A B E : Type 0} (f : A → Result B E) (xs ys : List A) (r : Result B E) →
    each f (xs ++ ys) ≡ (each f xs >>= λ front. each f ys >>= λ back. Ok (front ++ back)) →
    (r >>= λ z. each f (xs ++ ys) >>= λ zs. Ok (z ∷ zs)) ≡ ((r >>= λ z. each f xs >>= λ zs. Ok (z ∷ zs)) >>= λ front. each f
    ys >>= λ back. Ok (front ++ back))
each_cons f xs ys (Ok z) more = ap (λ r. r >>= λ zs. Ok (z ∷ zs)) more ∙ front_first z (each f xs) (each f ys)
each_cons f xs ys (Err e) more = refl

-- one list, then another
pub each-append :
    {A B E : Type 0} (f : A → Result B E) (xs ys : List A) →
    each f (xs ++ ys) ≡ (each f xs >>= λ front. each f ys >>= λ back. Ok (front ++ back))
each-append f [] ys = sym (then_ok (each f ys))
each-append f (x ∷ xs) ys = each_cons f xs ys (f x) (each-append f xs ys)

-- one more element, read without an error
pub each-push :
    {A B E : Type 0} (f : A → Result B E) (xs : List A) (ys : List B) (x : A) (y : B) → each f xs ≡ Ok ys → f x ≡ Ok y →
    each f (xs ++ x ∷ []) ≡ Ok (ys ++ y ∷ [])
each-push f xs ys x y so_far here =
    each-append f xs (x ∷ [])
    ∙ ap (λ r. r >>= λ front. each f (x ∷ []) >>= λ back. Ok (front ++ back)) so_far
    ∙ ap (λ r. (r >>= λ z. Ok (z ∷ [])) >>= λ back. Ok (ys ++ back)) here

fault_first :
    {A B E : Type 0} (f : A → Result B E) (xs rest : List A) (ys : List B) (x : A) (e : E) → each f xs ≡ Ok ys → f x ≡ Err e →
    each f (xs ++ x ∷ rest) ≡ Err e
fault_first f xs rest ys x e so_far here =
    each-append f xs (x ∷ rest)
    ∙ ap (λ r. r >>= λ front. each f (x ∷ rest) >>= λ back. Ok (front ++ back)) so_far
    ∙ ap (λ r. (r >>= λ z. each f rest >>= λ zs. Ok (z ∷ zs)) >>= λ back. Ok (ys ++ back)) here

-- the first element with an error decides
pub each-fault :
    {A B E : Type 0} (f : A → Result B E) (all : List A) (k : ℕ) (ys : List B) (x : A) (e : E) → k < length all →
    x ≡ get_or all k x → each f (take k all) ≡ Ok ys → f x ≡ Err e → each f all ≡ Err e
each-fault f all k ys x e inside is so_far here =
    let whole : all ≡ take k all ++ x ∷ drop (k + 1) all =
    sym (take-append-drop k all) ∙ ap (λ tail. take k all ++ tail) (drop_more all k x inside) ∙ ap
    (λ y. take k all ++ y ∷ drop (k + 1) all) (sym is) in
    ap (each f) whole ∙ fault_first f (take k all) (drop (k + 1) all) ys x e so_far here

-- a loop over an iterator: if the elements so far were read, and the next one has an error, then the whole list has that error
pub each-turn :
    {S A B C E : Type 0} {steps : S → Option A → S → Type 0} {v : A → B} {s : S} {all : List B} (f : B → Result C E)
    (road : YieldsList steps v s all) (xs : List A) (t : S) (y : Yields steps s xs t) (r : Option A) (u : S) (x : A) →
    r ≡ Some x → steps t r u → (ys : List C) (e : E) → each f (map v xs) ≡ Ok ys → f (v x) ≡ Err e → each f all ≡ Err e
each-turn {v = v} {all = all} f road xs t y r u x is step ys e so_far here =
    let turn = YieldsList-turn road xs t y r u x is step in
    each-fault f all (length xs) ys (v x) e turn.0 turn.1 (ap (each f) (sym (YieldsList-so_far road xs t y)) ∙ so_far) here

-- the loop has ended: what it has read is the whole list
pub each-end :
    {S A B C E : Type 0} {steps : S → Option A → S → Type 0} {v : A → B} {s : S} {all : List B} (f : B → Result C E)
    (road : YieldsList steps v s all) (xs : List A) (t : S) (y : Yields steps s xs t) (r : Option A) (u : S) →
    r ≡ None → steps t r u → (ys : List C) → each f (map v xs) ≡ Ok ys → each f all ≡ Ok ys
each-end f road xs t y r u is step ys so_far =
    let done = YieldsList-end road xs t y r u is step in
    ap (each f) (sym done.0) ∙ so_far

-- one more element was read
pub each-step :
    {A B C E : Type 0} (f : B → Result C E) (v : A → B) (xs : List A) (x : A) (ys : List C) (y : C) → each f (map v xs) ≡ Ok ys →
    f (v x) ≡ Ok y → each f (map v (xs ++ x ∷ [])) ≡ Ok (ys ++ y ∷ [])
each-step f v xs x ys y so_far here =
    ap (each f) (map-append v xs (x ∷ [])) ∙ each-push f (map v xs) ys (v x) y so_far here

-- ---- what holds of each part holds of the whole

pub ok_steps :
    {A B E : Type 0} (Q : A → Type 0) (P : B → Type 0) (r : Result A E) (next : A → Result B E) → IfOk r Q →
    ((x : A) → Q x → IfOk (next x) P) → IfOk (r >>= next) P
ok_steps Q P (Ok x) next first later = later x first
ok_steps Q P (Err fault) next first later = tt

pub err_steps :
    {A B E : Type 0} (P : E → Type 0) (r : Result A E) (next : A → Result B E) → IfErr r P → ((x : A) → IfErr (next x) P) →
    IfErr (r >>= next) P
err_steps P (Ok x) next first later = later x
err_steps P (Err fault) next first later = first

pub err_each : {A B E : Type 0} (P : E → Type 0) (f : A → Result B E) → ((x : A) → IfErr (f x) P) → (xs : List A) → IfErr (each f xs) P
err_each P f one [] = tt
err_each P f one (x ∷ xs) = err_steps P (f x) _ (one x) (λ y. err_steps P (each f xs) _ (err_each P f one xs) (λ ys. tt))

pub ok_choice : {A E : Type 0} (P : A → Type 0) (b : Bool) (x y : Result A E) → IfOk x P → IfOk y P → IfOk (cond b x y) P
ok_choice P true x y first second = first
ok_choice P false x y first second = second

pub err_choice : {A E : Type 0} (P : E → Type 0) (b : Bool) (x y : Result A E) → IfErr x P → IfErr y P → IfErr (cond b x y) P
err_choice P true x y first second = first
err_choice P false x y first second = second
