-- Zones that are found one after another: for the loop of `find_zones`, which has looked for those with the first names.
use Rattle.std.proofs.Common.{◌≡◌, ℕ, ◌+◌, ◌<◌, Bool, true, false, List, [], ◌∷◌, ◌++◌, length, take, drop, get_or, suc, Option, None, Some, Result, Ok, Err, ap, refl, sym, subst, ◌∙◌, drop-cons}
use Rattle.std.proofs.lemmas.List.{take_more, take-append-drop}
use Rattle.std.specs.List.{cons_option}
use Rattle.plan_check.specs.Context.{context_of}
use Rattle.plan_clock.specs.declared.row.Change.{Change}
use Rattle.plan_rules.specs.declared.NamedZone.{NamedZone}
use Rattle.agenda_faults.specs.declared.faults.Failure.{Failure}
use Rattle.agenda_faults.specs.declared.faults.Failure.TheVariants.{Run}
use Rattle.agenda_faults.specs.declared.faults.RunFault.TheVariants as run
use Rattle.agenda_sources.specs.declared.TimeZones.{TimeZones}
use Rattle.agenda_arguments.specs.declared.ZonesRequest.{ZonesRequest}
use Rattle.agenda_inputs.specs.EventZones.{found_by, found_zone, found_zones, time_zones, zones_by}
use Rattle.agenda_inputs.specs.Files.{Held}
use Rattle.agenda_inputs.specs.Opened.{event_files, files_of_names}
use Rattle.agenda_inputs.specs.Steps.{stops, goes}

-- no zone yet
pub found_none : (held : Held) (given : Option (List ℕ)) (clock : List Change) → found_zones held given clock [] (Ok [])
unfolding found_zones
found_none held given clock = refl

-- an allocation failed
pub found_fails :
    (is_given : Bool) (held : Held) (clock : List Change) (name : List ℕ) → found_by is_given held clock name (Err (Run run.NoMemory))
found_fails true held clock name = refl
found_fails false held clock name = refl

cons_append : (zone : Option NamedZone) (xs ys : List NamedZone) → cons_option zone xs ++ ys ≡ cons_option zone (xs ++ ys)
cons_append None xs ys = refl
cons_append (Some zone) xs ys = refl

-- one more zone
found_more :
    (held : Held) (given : Option (List ℕ)) (clock : List Change) (names : List (List ℕ)) (zones : List NamedZone) (name : List ℕ)
    (zone : Option NamedZone) → found_zones held given clock names (Ok zones) → found_zone held given clock name (Ok zone) →
    found_zones held given clock (names ++ name ∷ []) (Ok (zones ++ cons_option zone []))
unfolding found_zones
found_more held given clock [] zones name zone are is =
    let none : zones ≡ [] = cc in
    goes zone is (goes [] refl (ap (λ l. Ok (l ++ cons_option zone [])) none))
found_more held given clock (n ∷ names) zones name zone (stops failure none same) is = absurd cc
found_more held given clock (n ∷ names) zones name zone (goes first read (goes others are same)) is =
    let all : zones ≡ cons_option first others = cc in
    goes first read (goes (others ++ cons_option zone []) (found_more held given clock names others name zone are is)
    (ap (λ l. Ok (l ++ cons_option zone [])) all ∙ ap Ok (cons_append first others (cons_option zone []))))
found_more held given clock (n ∷ names) zones name zone (goes first read (stops failure none same)) is = absurd cc

-- a name after them at which an allocation fails
found_fail :
    (held : Held) (given : Option (List ℕ)) (clock : List Change) (names : List (List ℕ)) (zones : List NamedZone) (name : List ℕ)
    (more : List (List ℕ)) (failure : Failure) → found_zones held given clock names (Ok zones) →
    found_zone held given clock name (Err failure) → found_zones held given clock (names ++ name ∷ more) (Err failure)
unfolding found_zones
found_fail held given clock [] zones name more failure are is = stops failure is refl
found_fail held given clock (n ∷ names) zones name more failure (stops found none same) is = absurd cc
found_fail held given clock (n ∷ names) zones name more failure (goes first read (goes others are same)) is =
    goes first read (stops failure (found_fail held given clock names others name more failure are is) refl)
found_fail held given clock (n ∷ names) zones name more failure (goes first read (stops found none same)) is = absurd cc

-- the same by the place of the next name
pub found_up_to :
    (held : Held) (given : Option (List ℕ)) (clock : List Change) (names : List (List ℕ)) (zones : List NamedZone) (i : ℕ)
    (zone : Option NamedZone) → found_zones held given clock (take i names) (Ok zones) → i < length names →
    found_zone held given clock (get_or names i []) (Ok zone) →
    found_zones held given clock (take (i + 1) names) (Ok (zones ++ cons_option zone []))
found_up_to held given clock names zones i zone are within is =
    subst (λ ns. found_zones held given clock ns (Ok (zones ++ cons_option zone []))) (sym (take_more names i [] within))
    (found_more held given clock (take i names) zones (get_or names i []) zone are is)

pub found_fail_at :
    (held : Held) (given : Option (List ℕ)) (clock : List Change) (names : List (List ℕ)) (zones : List NamedZone) (i : ℕ)
    (failure : Failure) → found_zones held given clock (take i names) (Ok zones) → i < length names →
    found_zone held given clock (get_or names i []) (Err failure) → found_zones held given clock names (Err failure)
found_fail_at held given clock names zones i failure are within is =
    let cut : take i names ++ get_or names i [] ∷ drop (suc i) names ≡ names =
    ap (λ l. take i names ++ l) (sym (drop-cons names i [] within)) ∙ take-append-drop i names in
    subst (λ ns. found_zones held given clock ns (Err failure)) cut
    (found_fail held given clock (take i names) zones (get_or names i []) (drop (suc i) names) failure are is)

-- ---- the zones of a request

-- events may name none
pub no_names :
    (held : Held) (request : ZonesRequest) (clock : List Change) (names : List (List ℕ)) → request.event_zones ≡ false →
    time_zones held request clock names (Ok (record { clock = clock; timers = context_of None }))
no_names held request clock names is = goes None (rw is refl) refl

-- an allocation for their names failed
pub no_memory_for_names :
    (held : Held) (request : ZonesRequest) (clock : List Change) (names : List (List ℕ)) →
    time_zones held request clock names (Err (Run run.NoMemory))
no_memory_for_names held request clock names = stops (Run run.NoMemory) refl refl

-- events may name these
pub zones_if :
    (held : Held) (request : ZonesRequest) (clock : List Change) (names : List (List ℕ)) (end : Result TimeZones Failure) →
    request.event_zones ≡ true → zones_by held request.zone clock (Some names) end → time_zones held request clock names end
zones_if held request clock names end is by = goes (Some names) (rw is refl) by

pub files_none : (request : ZonesRequest) (names : List (List ℕ)) → request.event_zones ≡ false → event_files request names ≡ []
files_none request names is = rw is refl

pub files_if :
    (request : ZonesRequest) (names : List (List ℕ)) → request.event_zones ≡ true →
    event_files request names ≡ files_of_names request.zone names
files_if request names is = rw is refl
