-- Which files are opened: for functions that open some after others, and for loops over lists of them.
use Rattle.std.proofs.Common.{◌≡◌, OnOk, ℕ, ◌+◌, ◌<◌, List, [], ◌∷◌, ◌++◌, length, take, drop, get_or, suc, Option, None, Some, Result, Ok, Err, ap, refl, sym, subst, ◌∙◌, drop-cons, append_assoc, append-nil}
use Rattle.std.proofs.lemmas.List.{map-append, take_more, take-append-drop}
use Rattle.std.proofs.lemmas.Grind.{flat_map-append}
use Rattle.agenda_sources.specs.declared.SourcePath.{SourcePath}
use Rattle.agenda_inputs.specs.EventZones.{is_given}
use Rattle.agenda_inputs.specs.Opened.{OpensFirst, files_of_names, files_unless, followed_by, source_files}

-- nothing was added
pub none_more : {A : Type 0} (known : Option (List A)) → known ≡ followed_by known []
none_more None = refl
none_more (Some so_far) = ap Some (sym (append-nil so_far))

-- one addition after another
more_after :
    {A : Type 0} (known : Option (List A)) (xs ys : List A) → followed_by (followed_by known xs) ys ≡ followed_by known (xs ++ ys)
more_after None xs ys = refl
more_after (Some so_far) xs ys = ap Some (append_assoc so_far xs ys)

pub then_all :
    {A : Type 0} (xs ys : List A) (old mid new : Option (List A)) → mid ≡ followed_by old xs → new ≡ followed_by mid ys →
    new ≡ followed_by old (xs ++ ys)
then_all xs ys old mid new first second = second ∙ ap (λ known. followed_by known ys) first ∙ more_after old xs ys

-- the same if the second is one after success
pub then_on_ok :
    {A X E : Type 0} (result : Result X E) (xs ys : List A) (old mid new : Option (List A)) → mid ≡ followed_by old xs →
    OnOk result (new ≡ followed_by mid ys) → OnOk result (new ≡ followed_by old (xs ++ ys))
then_on_ok (Ok x) xs ys old mid new first second = then_all xs ys old mid new first second
then_on_ok (Err e) xs ys old mid new first second = tt

-- no file was opened yet
pub none_opened : (files : List (List ℕ)) (old : Option (List (List ℕ))) → OpensFirst files old old
none_opened files old = ([], files, refl, none_more old)

-- all of them were
pub all_opened : (files : List (List ℕ)) (old new : Option (List (List ℕ))) → new ≡ followed_by old files → OpensFirst files old new
all_opened files old new all = (files, [], sym (append-nil files), all)

-- others would have followed
pub before_others :
    (files more : List (List ℕ)) (old new : Option (List (List ℕ))) → OpensFirst files old new → OpensFirst (files ++ more) old new
before_others files more old new (done, left, is, opened) =
    (done, left ++ more, ap (λ l. l ++ more) is ∙ append_assoc done left more, opened)

-- others were opened before
pub after_others :
    (files more : List (List ℕ)) (old mid new : Option (List (List ℕ))) → mid ≡ followed_by old files → OpensFirst more mid new →
    OpensFirst (files ++ more) old new
after_others files more old mid new first (done, left, is, opened) =
    (files ++ done, left, ap (λ l. files ++ l) is ∙ sym (append_assoc files done left), then_all files done old mid new first opened)

-- ---- loops over a list whose elements have files

module _ {A : Type 0} (files : List A → List (List ℕ)) (joins : (xs ys : List A) → files (xs ++ ys) ≡ files xs ++ files ys) where
  -- those of one more element were opened
  pub opened_up_to :
      (xs : List A) (i : ℕ) (d : A) (old mid new : Option (List (List ℕ))) → i < length xs → mid ≡ followed_by old (files (take i xs)) →
      new ≡ followed_by mid (files (get_or xs i d ∷ [])) → new ≡ followed_by old (files (take (i + 1) xs))
  opened_up_to xs i d old mid new within so_far one =
      then_all _ _ old mid new so_far one
      ∙ ap (followed_by old) (sym (joins (take i xs) (get_or xs i d ∷ [])) ∙ ap files (sym (take_more xs i d within)))

  -- the first of those of the next element were opened
  pub opened_at :
      (xs : List A) (i : ℕ) (d : A) (old mid new : Option (List (List ℕ))) → i < length xs → mid ≡ followed_by old (files (take i xs)) →
      OpensFirst (files (get_or xs i d ∷ [])) mid new → OpensFirst (files xs) old new
  opened_at xs i d old mid new within so_far one =
      let cut : take i xs ++ (get_or xs i d ∷ [] ++ drop (suc i) xs) ≡ xs =
      ap (λ l. take i xs ++ l) (sym (drop-cons xs i d within)) ∙ take-append-drop i xs in
      let parts : files (take i xs) ++ (files (get_or xs i d ∷ []) ++ files (drop (suc i) xs)) ≡ files xs =
      ap (λ l. files (take i xs) ++ l) (sym (joins (get_or xs i d ∷ []) (drop (suc i) xs)))
      ∙ sym (joins (take i xs) (get_or xs i d ∷ [] ++ drop (suc i) xs)) ∙ ap files cut in
      subst (λ fs. OpensFirst fs old new) parts
      (after_others _ _ old mid new so_far (before_others _ (files (drop (suc i) xs)) mid new one))

  -- those of the first elements were opened
  pub opened_so_far :
      (xs : List A) (i : ℕ) (old new : Option (List (List ℕ))) → new ≡ followed_by old (files (take i xs)) → OpensFirst (files xs) old new
  opened_so_far xs i old new so_far =
      (files (take i xs), files (drop i xs), ap files (sym (take-append-drop i xs)) ∙ joins (take i xs) (drop i xs), so_far)

-- sources
pub sources_join : (xs ys : List SourcePath) → source_files (xs ++ ys) ≡ source_files xs ++ source_files ys
sources_join xs ys = map-append (λ given. given.path) xs ys

-- names of zones
pub names_join :
    (given : Option (List ℕ)) (xs ys : List (List ℕ)) → files_of_names given (xs ++ ys) ≡ files_of_names given xs ++ files_of_names given ys
names_join given xs ys = flat_map-append (λ name. files_unless (is_given given name) name) xs ys

-- the only name of a list
pub one_name :
    (given : Option (List ℕ)) (name : List ℕ) → files_unless (is_given given name) name ≡ files_of_names given (name ∷ [])
one_name given name = sym (append-nil (files_unless (is_given given name) name))
