-- Names: the bytes of the keys of a set. For `contains` and `add` of `Names`.
-- A search in a mapped list is a search by the mapped test (`list_any-map`), and a key with new bytes is appended.
use Rattle.std.proofs.Common.{◌≡◌, ℕ, Bool, false, ◌||◌, if◌then◌else◌, List, [], ◌∷◌, ◌++◌, map, String, Global, string_bytes, refl, ap, sym, ◌∙◌}
use Rattle.std.proofs.lemmas.List.{map-append}
use Rattle.std.specs.List.{list_any}
use Rattle.std.specs.Str.{bytes_eq}
use Rattle.std.specs.String.{string_eq}
use Rattle.indexmap.specs.IndexSet.{insert_key}
use Rattle.plan_rules.specs.Names.{with_name}

list_any-map : {A B : Type 0} (p : B → Bool) (f : A → B) (xs : List A) → list_any p (map f xs) ≡ list_any (λ x. p (f x)) xs
list_any-map p f [] = refl
list_any-map p f (x ∷ xs) = ap (λ found. p (f x) || found) (list_any-map p f xs)

-- a name is that of a key if it has the same bytes
pub named_by_key :
    (name : List ℕ) (keys : List (String Global)) →
    list_any (λ key. bytes_eq name (string_bytes key)) keys ≡ list_any (bytes_eq name) (map string_bytes keys)
named_by_key name keys = sym (list_any-map (bytes_eq name) string_bytes keys)

-- a key with new bytes is appended
pub insert_key-name :
    (keys : List (String Global)) (key : String Global) (name : List ℕ) → string_bytes key ≡ name →
    list_any (bytes_eq name) (map string_bytes keys) ≡ false →
    map string_bytes (insert_key string_eq keys key) ≡ map string_bytes keys ++ name ∷ []
insert_key-name keys key name named absent =
    let found : list_any (string_eq key) keys ≡ false =
    named_by_key (string_bytes key) keys ∙ ap (λ bytes. list_any (bytes_eq bytes) (map string_bytes keys)) named ∙ absent in
    ap (λ (is : Bool). map string_bytes (if is then keys else keys ++ key ∷ [])) found
    ∙ map-append string_bytes keys (key ∷ [])
    ∙ ap (λ bytes. map string_bytes keys ++ bytes ∷ []) named

-- a name that is not among them is appended
pub with_name-new :
    (names : List (List ℕ)) (name : List ℕ) → list_any (bytes_eq name) names ≡ false → with_name names name ≡ names ++ name ∷ []
with_name-new names name absent = ap (λ (is : Bool). if is then names else names ++ name ∷ []) absent
