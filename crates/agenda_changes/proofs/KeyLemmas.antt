-- What starts run as the keys of a map, which have these bytes: for `Firsts`.
use Rattle.std.proofs.Common.{◌≡◌, ℕ, zero, suc, ◌≤◌, Bool, true, false, cond, ◌||◌, List, [], ◌∷◌, ◌++◌, map, position, Option, None, Some, is_some, option_map, slice_get, refl, ap, sym, subst, ◌∙◌}
use Rattle.std.specs.List.{AllByRecursion, IsDistinct, list_all, list_any}
use Rattle.std.specs.Map.{keys_of, values_of}
use Rattle.std.specs.Prelude.{nat_le}
use Rattle.std.specs.Str.{bytes_eq}
use Rattle.std.proofs.lemmas.Bool.{and_from, and_parts, le-leb, leb-true}
use Rattle.std.proofs.lemmas.List.{map-append}
use Rattle.indexmap.specs.IndexMap.{IndexMap, insert_entry}
use Rattle.indexmap.proofs.CallerLemmas.{insert_entry-new}
use Rattle.indexmap.proofs.MapLemmas.{some_index}
use Rattle.plan_grammar.proofs.NameLemmas.{position-map}
use Rattle.plan_sets.specs.Limits.{end_second}
use Rattle.agenda_table.specs.Dates.{AreInYears}
use Rattle.agenda_changes.specs.Counts.{row_of, with_first}
use Rattle.agenda_changes.proofs.CountLemmas.{position_cons}
use Rattle.agenda_changes.proofs.FirstLemmas.{is_of}

module _ {K : Type 0} (bytes : K → List ℕ) where
  -- what is run, and the seconds
  abbrev pub shown : List (K × ℕ) → List (List ℕ × ℕ)
  shown es = map (λ entry. (bytes entry.0, entry.1)) es

  -- whether two keys have the same bytes
  abbrev pub same : (one other : K) → Bool
  same one other = bytes_eq (bytes one) (bytes other)

  pub row_is :
      (runs : List ℕ) (es : List (K × ℕ)) → position (λ key. bytes_eq runs (bytes key)) (keys_of es) ≡ row_of runs (shown es)
  row_is runs es =
      position-map (λ key. bytes_eq runs (bytes key)) (λ entry. entry.0) es
      ∙ sym (position-map (is_of runs) (λ entry. (bytes entry.0, entry.1)) es)

  apart :
      (key : K) (es : List (K × ℕ)) → AllByRecursion (λ other. same key other ≡ false) (keys_of es) →
      AllByRecursion (λ other. bytes_eq (bytes key) other ≡ false) (map (λ first. first.0) (shown es))
  apart key [] all = tt
  apart key (e ∷ es) all = (all.0, apart key es all.1)

  pub are_distinct : (es : List (K × ℕ)) → IsDistinct same (keys_of es) → IsDistinct bytes_eq (map (λ first. first.0) (shown es))
  unfolding IsDistinct
  are_distinct [] distinct = tt
  are_distinct (e ∷ es) distinct = (apart e.0 es distinct.0, are_distinct es distinct.1)

-- the second of an entry is in the years
pub in_years :
    {K : Type 0} (es : List (K × ℕ)) (n : ℕ) (key : K) (second : ℕ) → AreInYears (values_of es) → slice_get es n ≡ Some (key, second) →
    second ≤ end_second
in_years [] n key second are is = absurd (cc)
in_years (e ∷ es) zero key second are is =
    let same : e.1 ≡ second = cc in
    leb-true second end_second (ap (λ m. nat_le m end_second) (sym same)
    ∙ (and_parts (nat_le e.1 end_second) (list_all (λ m. nat_le m end_second) (values_of es)) are).0)
in_years (e ∷ es) (suc n) key second are is =
    in_years es n key second (and_parts (nat_le e.1 end_second) (list_all (λ m. nat_le m end_second) (values_of es)) are).1 is

-- one more entry in the years
years_more :
    {K : Type 0} (es : List (K × ℕ)) (key : K) (second : ℕ) → second ≤ end_second → AreInYears (values_of es) →
    AreInYears (values_of (es ++ (key, second) ∷ []))
years_more [] key second le are = and_from (nat_le second end_second) true (le-leb second end_second le) refl
years_more (e ∷ es) key second le are =
    let (here, others) = and_parts (nat_le e.1 end_second) (list_all (λ m. nat_le m end_second) (values_of es)) are in
    and_from (nat_le e.1 end_second) (list_all (λ m. nat_le m end_second) (values_of (es ++ (key, second) ∷ []))) here
    (years_more es key second le others)

-- a text has a row if it is there
some_row : (runs : List ℕ) (fs : List (List ℕ × ℕ)) → is_some (row_of runs fs) ≡ list_any (λ first. bytes_eq runs first.0) fs
some_row runs [] = refl
some_row runs (first ∷ fs) =
    ap is_some (position_cons (λ (one : List ℕ × ℕ). bytes_eq runs one.0) first fs)
    ∙ go (bytes_eq runs first.0) (row_of runs fs) (some_row runs fs) where
      go :
          (here : Bool) (row : Option ℕ) → is_some row ≡ list_any (λ one. bytes_eq runs one.0) fs →
          is_some (cond here (Some 0) (option_map suc row)) ≡ (here || list_any (λ one. bytes_eq runs one.0) fs)
      go true row is = refl
      go false None is = is
      go false (Some n) is = is

-- a text that has a row isn't added
pub kept :
    (runs : List ℕ) (second : ℕ) (fs : List (List ℕ × ℕ)) (row : Option ℕ) → row ≡ row_of runs fs → is_some row ≡ true →
    fs ≡ with_first fs runs second
kept runs second fs row is some =
    ap (λ there. cond there fs (fs ++ (runs, second) ∷ [])) (sym some ∙ ap is_some is ∙ some_row runs fs)

none_there : {A : Type 0} (found : Option A) → is_some found ≡ false → found ≡ None
none_there None none = refl
none_there (Some x) none = absurd (cc)

module _
    {K S : Type 0} (bytes : K → List ℕ) (m : IndexMap K ℕ S) (key : K) (runs : List ℕ) (second : ℕ) (row : Option ℕ)
    (is : row ≡ row_of runs (shown bytes m.entries)) (none : is_some row ≡ false) (has : bytes key ≡ runs) where
  -- a text without a row is added last
  last : insert_entry (same bytes) m.entries key second ≡ m.entries ++ (key, second) ∷ []
  last =
      insert_entry-new (same bytes) m key second
      (none_there _ (sym (some_index (same bytes key) m.entries)
      ∙ ap is_some (row_is bytes (bytes key) m.entries ∙ ap (λ text. row_of text (shown bytes m.entries)) has)
      ∙ sym (ap is_some is) ∙ none))

  pub added : shown bytes (insert_entry (same bytes) m.entries key second) ≡ with_first (shown bytes m.entries) runs second
  added =
      ap (shown bytes) last
      ∙ map-append (λ entry. (bytes entry.0, entry.1)) m.entries ((key, second) ∷ [])
      ∙ ap (λ text. shown bytes m.entries ++ (text, second) ∷ []) has
      ∙ sym (ap (λ there. cond there (shown bytes m.entries) (shown bytes m.entries ++ (runs, second) ∷ []))
      (sym (some_row runs (shown bytes m.entries)) ∙ sym (ap is_some is) ∙ none))

  pub added_in_years :
      second ≤ end_second → AreInYears (values_of m.entries) →
      AreInYears (values_of (insert_entry (same bytes) m.entries key second))
  added_in_years le are = subst (λ es. AreInYears (values_of es)) (sym last) (years_more m.entries key second le are)
