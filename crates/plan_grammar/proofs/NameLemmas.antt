-- How a name is found in a table, and that a name in ASCII is UTF-8.
-- For `named_value` of a field, and for `at_word`. The code searches a table of borrowed texts, the definition a table of
-- texts. By induction over the table both find the same place or row.
use Rattle.std.proofs.Common.{◌≡◌, ℕ, ◌+◌, arith, Bool, cond, List, [], ◌∷◌, map, find, position, Option, true, zero, suc, ltb-true, refl, ap, sym, ◌∙◌}
use Rattle.std.proofs.lemmas.Bool.Decides.{nat_tests}
use Rattle.std.proofs.lemmas.List.{length-map}
use Rattle.std.proofs.lemmas.Bool.{and_parts}
use Rattle.std.proofs.lemmas.Str.{IsUtf8-from_ascii}
use Rattle.std.specs.Char.{is_ascii}
use Rattle.std.specs.List.{list_all, prefix_len}
use Rattle.std.specs.Option.{option_map}
use Rattle.std.specs.Str.{bytes_eq, str_eq_ignore_ascii_case, IsAscii, IsUtf8}
use Rattle.plan_grammar.specs.declared.field.Field.{Field}
use Rattle.plan_grammar.specs.Cron.{lowest, names_of, named_value, at_words, at_word}

prefix_len-map : {X Y : Type 0} (p : Y → Bool) (v : X → Y) (xs : List X) → prefix_len p (map v xs) ≡ prefix_len (λ x. p (v x)) xs
prefix_len-map p v [] = refl
prefix_len-map p v (x ∷ xs) = ap (λ n. cond (p (v x)) (1 + n) 0) (prefix_len-map p v xs)

-- a search in a mapped list stops at the same position
pub position-map : {X Y : Type 0} (p : Y → Bool) (v : X → Y) (xs : List X) → position p (map v xs) ≡ position (λ x. p (v x)) xs
position-map p v xs = simp (prefix_len-map, length-map)

find-map : {X Y : Type 0} (p : Y → Bool) (v : X → Y) (xs : List X) → option_map v (find (λ x. p (v x)) xs) ≡ find p (map v xs)
find-map p v [] = refl
find-map p v (x ∷ xs) = grind (arith, nat_tests, find-map p v xs)

-- the place of a name among the borrowed names
pub named_by_place :
    {A : Type 0} (v : A → List ℕ) (field : Field) (name : List ℕ) (names : List A) (place : Option ℕ) →
    map v names ≡ names_of field → place ≡ position (λ known. str_eq_ignore_ascii_case name (v known)) names →
    option_map (λ n. lowest field + n) place ≡ named_value field name
named_by_place v field name names place shown is =
    ap (option_map (λ n. lowest field + n))
    (is ∙ sym (position-map (str_eq_ignore_ascii_case name) v names) ∙ ap (position (str_eq_ignore_ascii_case name)) shown)

twice : {X Y Z : Type 0} (v : X → Y) (w : Y → Z) (o : Option X) → option_map (λ x. w (v x)) o ≡ option_map w (option_map v o)
twice v w o = grind (arith, nat_tests)

-- what the table has for a word, in the table of borrowed texts
pub found_by_word :
    {A : Type 0} (v : A → List ℕ × Option (List ℕ)) (word : List ℕ) (known : List A) (found : Option A) → map v known ≡ at_words →
    found ≡ find (λ row. bytes_eq ((v row).0) word) known → option_map (λ row. (v row).1) found ≡ at_word word
found_by_word v word known found shown is =
    twice v (λ row. row.1) found
    ∙ ap (option_map (λ row. row.1))
    (ap (option_map v) is ∙ find-map (λ row. bytes_eq (row.0) word) v known ∙ ap (find (λ row. bytes_eq (row.0) word)) shown)

-- each byte of a text in ASCII is below 128
each_below : (text : List ℕ) → list_all is_ascii text ≡ true → IsAscii text
each_below [] all k = omega arith
each_below (b ∷ more) all zero = ltb-true b 128 (and_parts (is_ascii b) (list_all is_ascii more) all).0
each_below (b ∷ more) all (suc k) = each_below more (and_parts (is_ascii b) (list_all is_ascii more) all).1 k

-- a text in ASCII is UTF-8
pub ascii_is_utf8 : (text : List ℕ) → list_all is_ascii text ≡ true → IsUtf8 text
ascii_is_utf8 text all = IsUtf8-from_ascii text (each_below text all)
