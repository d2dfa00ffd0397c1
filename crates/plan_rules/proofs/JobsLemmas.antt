-- Jobs by their names: the entries of a map, whose keys are the names of its values.
-- For `distinct` of `Jobs::len`, for `number_of` and for `add`. `KeysAreNames` is the type's invariant. By it the position of a
-- key is that of a job, since a search in a mapped list stops at the same position (`position-map`).
use Rattle.std.proofs.Common.{◌≡◌, ℕ, Bool, true, false, cond, List, [], ◌∷◌, ◌++◌, map, Option, None, is_some, String, Global, string_bytes, position, refl, ap, sym, ◌∙◌, subst, arith}
use Rattle.std.proofs.lemmas.Bool.Decides.{nat_tests}
use Rattle.std.proofs.lemmas.List.{map-append}
use Rattle.std.specs.List.{IsDistinct, AllByRecursion, filter}
use Rattle.std.specs.Map.{keys_of, values_of}
use Rattle.std.specs.Str.{bytes_eq}
use Rattle.std.specs.String.{string_eq}
use Rattle.indexmap.specs.IndexMap.{IndexMap, insert_entry}
use Rattle.indexmap.proofs.CallerLemmas.{insert_entry-new}
use Rattle.indexmap.proofs.MapLemmas.{some_index}
use Rattle.plan_grammar.proofs.NameLemmas.{position-map}
use Rattle.plan_rules.specs.Job.{JobParts}
use Rattle.plan_rules.specs.Jobs.{number_of, HaveDistinctNames}

-- the keys are the names of the values
abbrev pub KeysAreNames : List (String Global × JobParts) → Type 0
KeysAreNames es = map (λ key. string_bytes key) (keys_of es) ≡ map (λ job. job.name) (values_of es)

-- so the position of a key is the number of a job
pub number_of-keys :
    (name : List ℕ) (es : List (String Global × JobParts)) → KeysAreNames es →
    position (λ key. bytes_eq name (string_bytes key)) (keys_of es) ≡ number_of name (values_of es)
number_of-keys name es same =
    sym (position-map (bytes_eq name) (λ key. string_bytes key) (keys_of es))
    ∙ ap (position (bytes_eq name)) same
    ∙ position-map (bytes_eq name) (λ job. job.name) (values_of es)

apart :
    {A B : Type 0} (e : B → B → Bool) (f : A → B) (x : A) (xs : List A) → AllByRecursion (λ y. e (f x) (f y) ≡ false) xs →
    AllByRecursion (λ y. e (f x) y ≡ false) (map f xs)
apart e f x [] h = tt
apart e f x (y ∷ ys) h = (h.0, apart e f x ys h.1)

IsDistinct-map :
    {A B : Type 0} (e : B → B → Bool) (f : A → B) (xs : List A) → IsDistinct (λ x y. e (f x) (f y)) xs → IsDistinct e (map f xs)
unfolding IsDistinct
IsDistinct-map e f [] h = tt
IsDistinct-map e f (x ∷ xs) h = (apart e f x xs h.0, IsDistinct-map e f xs h.1)

-- the names are distinct, as the keys are
pub HaveDistinctNames-keys :
    (es : List (String Global × JobParts)) → KeysAreNames es → IsDistinct string_eq (keys_of es) → HaveDistinctNames (values_of es)
HaveDistinctNames-keys es same distinct =
    let P : List (List ℕ) → Type 0 = IsDistinct bytes_eq in
    subst P same (IsDistinct-map bytes_eq (λ key. string_bytes key) (keys_of es) distinct)

none_there : {A : Type 0} (o : Option A) → is_some o ≡ false → o ≡ None
none_there o h = grind (arith, nat_tests)

-- a job with a new name is added last
pub insert_entry-job :
    {S : Type 0} (m : IndexMap (String Global) JobParts S) (key : String Global) (job : JobParts) → KeysAreNames m.entries →
    string_bytes key ≡ job.name → is_some (number_of job.name (values_of m.entries)) ≡ false →
    insert_entry string_eq m.entries key job ≡ m.entries ++ (key, job) ∷ []
insert_entry-job m key job same named absent =
    insert_entry-new string_eq m key job
    (none_there _ (sym (some_index (string_eq key) m.entries) ∙ ap is_some (number_of-keys (string_bytes key) m.entries same)
    ∙ ap (λ name. is_some (number_of name (values_of m.entries))) named ∙ absent))

-- afterwards the keys are still the names
pub KeysAreNames-push :
    (es : List (String Global × JobParts)) (key : String Global) (job : JobParts) → KeysAreNames es → string_bytes key ≡ job.name →
    KeysAreNames (es ++ (key, job) ∷ [])
KeysAreNames-push es key job same named =
    ap (map (λ k. string_bytes k)) (map-append (λ e. e.0) es ((key, job) ∷ []))
    ∙ map-append (λ k. string_bytes k) (keys_of es) (key ∷ [])
    ∙ (λ i. same i ++ named i ∷ [])
    ∙ sym (map-append (λ j. j.name) (values_of es) (job ∷ []))
    ∙ ap (map (λ j. j.name)) (sym (map-append (λ e. e.1) es ((key, job) ∷ [])))

-- an entry is left out or kept
kept_key :
    (is : Bool) (e : String Global × JobParts) (es : List (String Global × JobParts)) → string_bytes e.0 ≡ e.1.name → KeysAreNames es →
    KeysAreNames (cond is (e ∷ es) es)
kept_key true e es named same = λ k. named k ∷ same k
kept_key false e es named same = same

kept_value :
    (is : Bool) (e : String Global × JobParts) (es : List (String Global × JobParts)) (jobs : List JobParts) → values_of es ≡ jobs →
    values_of (cond is (e ∷ es) es) ≡ cond is (e.1 ∷ jobs) jobs
kept_value true e es jobs same = ap (λ (all : List JobParts). e.1 ∷ all) same
kept_value false e es jobs same = same

-- where some entries are left out, the keys of the others are still their names
pub KeysAreNames-filter :
    (test : JobParts → Bool) (es : List (String Global × JobParts)) → KeysAreNames es → KeysAreNames (filter (λ e. test e.1) es)
KeysAreNames-filter test [] same = same
KeysAreNames-filter test (e ∷ es) same =
    kept_key (test e.1) e (filter (λ e. test e.1) es) (cc) (KeysAreNames-filter test es (cc))

-- their values are the values that pass the test
pub values_of-filter :
    (test : JobParts → Bool) (es : List (String Global × JobParts)) → values_of (filter (λ e. test e.1) es) ≡ filter test (values_of es)
values_of-filter test [] = refl
values_of-filter test (e ∷ es) = kept_value (test e.1) e (filter (λ e. test e.1) es) (filter test (values_of es)) (values_of-filter test es)
