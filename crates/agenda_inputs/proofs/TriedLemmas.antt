-- Sources that are tried one after another: for the loop of `read_sources`, which has tried those with the first paths.
use Rattle.std.proofs.Common.{◌≡◌, inl, ℕ, ◌+◌, ◌<◌, Bool, true, false, List, [], ◌∷◌, ◌++◌, length, take, drop, get_or, suc, Option, None, Some, Ok, Err, ap, refl, sym, subst, ◌∙◌, drop-cons}
use Rattle.std.proofs.lemmas.List.{take_more, take-append-drop}
use Rattle.agenda_sources.specs.declared.Source.{Source}
use Rattle.agenda_sources.specs.declared.SourcePath.{SourcePath}
use Rattle.agenda_faults.specs.declared.faults.Failure.{Failure}
use Rattle.agenda_faults.specs.declared.faults.Failure.TheVariants.{Run}
use Rattle.agenda_faults.specs.declared.faults.RunFault.TheVariants as run
use Rattle.agenda_inputs.specs.declared.sources.Tried.{Tried}
use Rattle.agenda_inputs.specs.Files.{Held}
use Rattle.agenda_inputs.specs.Sources.{tried_of, tries_of, with_first, with_last}
use Rattle.agenda_inputs.specs.Steps.{stops, goes}

-- an allocation may fail at each path
pub memory_fails : (keeps_going : Bool) (held : Held) (given : SourcePath) → tried_of keeps_going held given (Err (Run run.NoMemory))
memory_fails true held given = refl
memory_fails false held given = stops (Run run.NoMemory) (inl refl) refl

-- no source yet
pub tries_none : (keeps_going : Bool) (held : Held) → tries_of keeps_going held [] (Ok (record { sources = []; paths = []; unread = [] }))
unfolding tries_of
tries_none keeps_going held = refl

-- the first and the last path are added in either order
both_ends :
    (first last : SourcePath) (a b : Option Source) (tried : Tried) →
    with_first first a (with_last tried last b) ≡ with_last (with_first first a tried) last b
both_ends first last None None tried = refl
both_ends first last None (Some y) tried = refl
both_ends first last (Some x) None tried = refl
both_ends first last (Some x) (Some y) tried = refl

-- after no path, one is the first and the last
alone :
    (given : SourcePath) (source : Option Source) →
    with_last (record { sources = []; paths = []; unread = [] }) given source
    ≡ with_first given source (record { sources = []; paths = []; unread = [] })
alone given None = refl
alone given (Some x) = refl

-- one more path
tries_more :
    (keeps_going : Bool) (held : Held) (paths : List SourcePath) (tried : Tried) (given : SourcePath) (source : Option Source) →
    tries_of keeps_going held paths (Ok tried) → tried_of keeps_going held given (Ok source) →
    tries_of keeps_going held (paths ++ given ∷ []) (Ok (with_last tried given source))
unfolding tries_of
tries_more keeps_going held [] tried given source are is =
    let none : tried ≡ record { sources = []; paths = []; unread = [] } = cc in
    goes source is (goes _ refl (ap (λ t. Ok (with_last t given source)) none ∙ ap Ok (alone given source)))
tries_more keeps_going held (p ∷ paths) tried given source (stops failure _ same) is = absurd cc
tries_more keeps_going held (p ∷ paths) tried given source (goes first read (goes others are same)) is =
    let all : tried ≡ with_first p first others = cc in
    goes first read (goes (with_last others given source) (tries_more keeps_going held paths others given source are is)
    (ap (λ t. Ok (with_last t given source)) all ∙ ap Ok (sym (both_ends p given first source others))))
tries_more keeps_going held (p ∷ paths) tried given source (goes first read (stops failure _ same)) is = absurd cc

-- a path after them whose source fails
tries_fail :
    (keeps_going : Bool) (held : Held) (paths : List SourcePath) (tried : Tried) (given : SourcePath) (more : List SourcePath)
    (failure : Failure) → tries_of keeps_going held paths (Ok tried) → tried_of keeps_going held given (Err failure) →
    tries_of keeps_going held (paths ++ given ∷ more) (Err failure)
unfolding tries_of
tries_fail keeps_going held [] tried given more failure are is = stops failure is refl
tries_fail keeps_going held (p ∷ paths) tried given more failure (stops found _ same) is = absurd cc
tries_fail keeps_going held (p ∷ paths) tried given more failure (goes first read (goes others are same)) is =
    goes first read (stops failure (tries_fail keeps_going held paths others given more failure are is) refl)
tries_fail keeps_going held (p ∷ paths) tried given more failure (goes first read (stops found _ same)) is = absurd cc

-- the same by the place of the next path
pub tries_up_to :
    (keeps_going : Bool) (held : Held) (paths : List SourcePath) (tried : Tried) (i : ℕ) (d : SourcePath) (source : Option Source) →
    tries_of keeps_going held (take i paths) (Ok tried) → i < length paths → tried_of keeps_going held (get_or paths i d) (Ok source) →
    tries_of keeps_going held (take (i + 1) paths) (Ok (with_last tried (get_or paths i d) source))
tries_up_to keeps_going held paths tried i d source are within is =
    subst (λ ps. tries_of keeps_going held ps (Ok (with_last tried (get_or paths i d) source))) (sym (take_more paths i d within))
    (tries_more keeps_going held (take i paths) tried (get_or paths i d) source are is)

pub tries_fail_at :
    (keeps_going : Bool) (held : Held) (paths : List SourcePath) (tried : Tried) (i : ℕ) (d : SourcePath) (failure : Failure) →
    tries_of keeps_going held (take i paths) (Ok tried) → i < length paths → tried_of keeps_going held (get_or paths i d) (Err failure) →
    tries_of keeps_going held paths (Err failure)
tries_fail_at keeps_going held paths tried i d failure are within is =
    let cut : take i paths ++ get_or paths i d ∷ drop (suc i) paths ≡ paths =
    ap (λ l. take i paths ++ l) (sym (drop-cons paths i d within)) ∙ take-append-drop i paths in
    subst (λ ps. tries_of keeps_going held ps (Err failure)) cut
    (tries_fail keeps_going held (take i paths) tried (get_or paths i d) (drop (suc i) paths) failure are is)
