-- The lines that are comments, and lists of codes with those of the same warnings.
use Rattle.std.proofs.Common.{◌≡◌, ℕ, ◌+◌, Bool, true, false, cond, ◌||◌, List, [], ◌∷◌, ◌++◌, map, refl, ap, sym, subst, ◌∙◌, append_assoc, reverse, take, drop, min, length, ◌-◌, arith}
use Rattle.std.proofs.lemmas.Grind.{common_steps}
use Rattle.std.proofs.lemmas.Bool.Decides.{same_from_decides}
use Rattle.std.proofs.lemmas.List.{map-append, reverse-append}
use Rattle.std.proofs.lemmas.List.Folds.{list_any-append}
use Rattle.std.proofs.lemmas.Slice.Eq.{bytes_eq-Decides}
use Rattle.std.specs.List.{list_any, prefix_len, suffix_len}
use Rattle.std.specs.Str.{bytes_eq}
use Rattle.agenda_codes.specs.declared.Code.{Code}
use Rattle.agenda_codes.specs.Codes.{name_of}
use Rattle.plan_check.specs.Finding.{warning_name}
use Rattle.agenda_policy.specs.Comments.{AreSame}
use Rattle.agenda_policy.specs.Policy.{has_code, has_name, has_warning}

-- ---- lines

pub prefix_len-map : {A B : Type 0} (p : B → Bool) (f : A → B) (xs : List A) → prefix_len (λ x. p (f x)) xs ≡ prefix_len p (map f xs)
prefix_len-map p f [] = refl
prefix_len-map p f (x ∷ xs) = ap (λ n. cond (p (f x)) (1 + n) 0) (prefix_len-map p f xs)

map-reverse : {A B : Type 0} (f : A → B) (xs : List A) → map f (reverse xs) ≡ reverse (map f xs)
map-reverse f [] = refl
map-reverse f (x ∷ xs) =
    ap (map f) (reverse-append (x ∷ []) xs) ∙ map-append f (reverse xs) (x ∷ []) ∙ ap (λ l. l ++ f x ∷ []) (map-reverse f xs)
    ∙ sym (reverse-append (f x ∷ []) (map f xs))

pub suffix_len-map : {A B : Type 0} (p : B → Bool) (f : A → B) (xs : List A) → suffix_len (λ x. p (f x)) xs ≡ suffix_len p (map f xs)
suffix_len-map p f xs = prefix_len-map p f (reverse xs) ∙ ap (prefix_len p) (map-reverse f xs)

-- as many elements as a list has, or fewer
pub take_within : {A : Type 0} (n : ℕ) (xs : List A) → take (min n (length xs)) xs ≡ take n xs
take_within n xs = grind (arith, common_steps)

-- all elements from a place on
pub take_all_after : {A : Type 0} (n : ℕ) (xs : List A) → take (length xs - n) (drop n xs) ≡ drop n xs
take_all_after n xs = grind (arith, common_steps)

-- whether an element passes a test, by what is shown of each
pub list_any-map : {A B : Type 0} (p : B → Bool) (f : A → B) (xs : List A) → list_any p (map f xs) ≡ list_any (λ x. p (f x)) xs
list_any-map p f [] = refl
list_any-map p f (x ∷ xs) = ap (λ b. p (f x) || b) (list_any-map p f xs)

-- ---- codes

with_known :
    (all : List Code) (code : Code) (name : List ℕ) → has_code all code ≡ true → (b : Bool) → bytes_eq (name_of code) name ≡ b →
    has_name all name ≡ (has_name all name || (b || false))
with_known all code name known true same =
    let is : name_of code ≡ name = (bytes_eq-Decides (name_of code) name).0 same in
    let known_there : has_name all name ≡ true = subst (λ (n : List ℕ). has_name all n ≡ true) is known in
    rw known_there refl
with_known all code name known false same = elim (has_name all name) as (λ b. b ≡ (b || (false || false))) [ true ↦ refl | false ↦ refl ]

-- a code that is there already may be added
pub known_code : (all : List Code) (code : Code) → has_code all code ≡ true → AreSame all (all ++ code ∷ [])
known_code all code known warning =
    with_known all code (warning_name warning) known (bytes_eq (name_of code) (warning_name warning)) refl
    ∙ sym (list_any-append (λ one. bytes_eq (name_of one) (warning_name warning)) all (code ∷ []))

-- codes are added before what is left
pub moved :
    (old added left new all : List Code) → AreSame new (old ++ added) → AreSame (old ++ (added ++ left)) all → AreSame (new ++ left) all
moved old added left new all step so_far warning =
    let P : Code → Bool = λ one. bytes_eq (name_of one) (warning_name warning) in
    list_any-append P new left ∙ ap (λ b. b || list_any P left) (step warning) ∙ sym (list_any-append P (old ++ added) left)
    ∙ ap (list_any P) (append_assoc old added left) ∙ so_far warning
