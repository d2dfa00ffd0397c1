-- Only the zones with the names of `timer_zones` matter: for the law `only_named_zones_matter`.
-- An event looks for the clock of its own zone alone (`same_event`). The rest is induction over what the lines do.
use Rattle.std.proofs.Common.{◌≡◌, ℕ, Bool, true, false, not, ◌||◌, if◌then◌else◌, cond, List, [], ◌∷◌, nat_lt, find, ok_or, option_and_then, Option, Some, None, Ok, Err, true≢false, refl, ap, sym, ◌∙◌}
use Rattle.std.proofs.lemmas.Bool.{and_parts}
use Rattle.std.specs.Char.{is_ascii}
use Rattle.std.specs.Cmp.Lexicographic.{bytes_decides}
use Rattle.std.specs.List.{cons_option, filter_map, list_all}
use Rattle.std.specs.Option.{option_map}
use Rattle.std.specs.Str.{bytes_eq}
use Rattle.plan_clock.specs.declared.row.Change.{Change}
use Rattle.plan_grammar.specs.declared.NamedZone.{NamedZone}
use Rattle.plan_grammar.specs.declared.RuleCause.TheVariants.{Specifier, UnknownZone}
use Rattle.plan_grammar.specs.Event.{cut_reading, event_reading, has_specifier, in_own_zone, words_reading, zone_cut, zone_name, zoneless}
use Rattle.plan_grammar.specs.EventZones.{clock_named, is_utc, name_in_database, zone_clock}
use Rattle.plan_grammar.specs.Readings.{Reading, rejected}
use Rattle.plan_texts.specs.Steps.{◌>>=◌}
use Rattle.plan_texts.specs.Text.{words}
use Rattle.plan_rules.specs.declared.line_fault.LineCause.TheVariants.{BadTimerName, TooManyLines}
use Rattle.plan_rules.specs.Entries.{entry_at, faults_of, unless_faulty}
use Rattle.plan_rules.specs.Job.{JobParts}
use Rattle.plan_rules.specs.Limits.{most_events}
use Rattle.plan_rules.specs.LineFaults.{TextReading, in_line, on_line}
use Rattle.plan_rules.specs.Timer.{Effect, Reset, Event, Starts, Nothing, effects_from, has_timer, is_timer_name, job_with, settings_from}
use Rattle.plan_rules.specs.TimerOptions.{options_of}
use Rattle.plan_rules.specs.TimerEntries.{EventCount, LineStep, Idle, Empties, Has, Names, after_event_text, count_after, draft_from, entry_of, no_draft, no_events, steps_from, timer_lines, timer_of_lines, timer_reading}
use Rattle.plan_rules.specs.TimerZones.{HaveSameClocks, are_ascii, effect_zone, lines_zones, timer_zones}

-- the clocks for a name are the same, if there is a name
abbrev SameFor : (zones others : List NamedZone) → Option (List ℕ) → Type 0
SameFor zones others None = Unit {0}
SameFor zones others (Some name) = clock_named name zones ≡ clock_named name others

-- the first of the names, and the others
first_same :
    (zones others : List NamedZone) (name : Option (List ℕ)) (names : List (List ℕ)) →
    HaveSameClocks zones others (cons_option name names) → SameFor zones others name × HaveSameClocks zones others names
first_same zones others None names same = (tt, same)
first_same zones others (Some name) names same = (same.0, same.1)

-- ---- an event

-- no zone has a name that isn't ASCII
absent_step :
    (is : Bool) (zone : NamedZone) (name : List ℕ) (found : Option NamedZone) → bytes_eq zone.name name ≡ is →
    list_all is_ascii zone.name ≡ true → list_all is_ascii name ≡ false → option_map (λ z. z.clock) found ≡ None →
    option_map (λ (z : NamedZone). z.clock) (cond is (Some zone) found) ≡ None
absent_step true zone name found is ascii other none =
    absurd (true≢false (sym ascii ∙ ap (list_all is_ascii) ((bytes_decides zone.name name).0 is) ∙ other))
absent_step false zone name found is ascii other none = none

absent :
    (zones : List NamedZone) (name : List ℕ) → are_ascii zones ≡ true → list_all is_ascii name ≡ false → clock_named name zones ≡ None
absent [] name ascii other = refl
absent (zone ∷ more) name ascii other =
    let both = and_parts (list_all is_ascii zone.name) (are_ascii more) ascii in
    absent_step (bytes_eq zone.name name) zone name (find (λ z. bytes_eq z.name name) more) refl both.0 other
    (absent more name both.1 other)

-- the clock of a zone, by whether it is UTC and by the clock with its name
abbrev looked_up : Bool → Option (List Change) → Reading (List Change)
looked_up utc clock = if utc then Ok [] else ok_or clock (record { part = 8; cause = UnknownZone })

same_by :
    (utc ascii : Bool) (zones others : List NamedZone) (name : List ℕ) → are_ascii zones ≡ true → are_ascii others ≡ true →
    list_all is_ascii name ≡ ascii → SameFor zones others (if utc || not ascii then None else Some name) →
    looked_up utc (clock_named name zones) ≡ looked_up utc (clock_named name others)
same_by true ascii zones others name first second is same = refl
same_by false true zones others name first second is same = ap (looked_up false) same
same_by false false zones others name first second is same =
    ap (looked_up false) (absent zones name first is ∙ sym (absent others name second is))

same_clock :
    (zones others : List NamedZone) (name : List ℕ) → are_ascii zones ≡ true → are_ascii others ≡ true →
    SameFor zones others (name_in_database name) → zone_clock (Some zones) name ≡ zone_clock (Some others) name
unfolding zone_clock
same_clock zones others name first second same =
    same_by (is_utc name) (list_all is_ascii name) zones others name first second refl same

same_cut :
    (zones others : List NamedZone) (texts : List (List ℕ)) (zone : Option (List ℕ)) → are_ascii zones ≡ true → are_ascii others ≡ true →
    SameFor zones others (option_and_then name_in_database zone) →
    cut_reading (Some zones) texts zone ≡ cut_reading (Some others) texts zone
same_cut zones others texts None first second same = refl
same_cut zones others texts (Some name) first second same =
    ap (λ (r : Reading (List Change)). r >>= λ clock. zoneless texts >>= λ event. Ok (in_own_zone clock event))
    (same_clock zones others name first second same)

same_event :
    (zones others : List NamedZone) (text : List ℕ) → are_ascii zones ≡ true → are_ascii others ≡ true →
    SameFor zones others (zone_name text) → event_reading (Some zones) text ≡ event_reading (Some others) text
unfolding words_reading
same_event zones others text first second same =
    let cut = zone_cut (words text) in
    ap (cond (has_specifier text) (rejected 0 Specifier)) (same_cut zones others cut.0 cut.1 first second same)

-- ---- the lines

same_steps :
    (zones others : List NamedZone) (count : EventCount) (effects : List (ℕ × Effect)) → are_ascii zones ≡ true →
    are_ascii others ≡ true → HaveSameClocks zones others (filter_map (λ effect. effect_zone effect.1) effects) →
    steps_from (Some zones) count effects ≡ steps_from (Some others) count effects
same_steps zones others count [] first second same = refl
same_steps zones others count ((number, Event text) ∷ more) first second same =
    let both = first_same zones others (zone_name text) (filter_map (λ (effect : ℕ × Effect). effect_zone effect.1) more) same in
    (λ i. cond (nat_lt count.held most_events) (Has (entry_at number (in_line (same_event zones others text first second both.0 i))))
    (cond count.told Idle (Has (entry_at number (Err TooManyLines))))
    ∷ same_steps zones others (after_event_text count) more first second both.1 i)
same_steps zones others count ((number, Reset) ∷ more) first second same =
    ap (λ steps. Empties ∷ steps) (same_steps zones others (count_after count Reset) more first second same)
same_steps zones others count ((number, Starts unit) ∷ more) first second same =
    ap (λ steps. Names unit ∷ steps) (same_steps zones others count more first second same)
same_steps zones others count ((number, Nothing) ∷ more) first second same =
    ap (λ steps. Idle ∷ steps) (same_steps zones others count more first second same)

same_lines :
    (zones others : List NamedZone) (name : List ℕ) (lines : TextReading (List (ℕ × List ℕ))) → are_ascii zones ≡ true →
    are_ascii others ≡ true → HaveSameClocks zones others (lines_zones lines) →
    (lines >>= λ ls. timer_of_lines (Some zones) name ls) ≡ (lines >>= λ ls. timer_of_lines (Some others) name ls)
same_lines zones others name (Err fault) first second same = refl
same_lines zones others name (Ok lines) first second same =
    ap (λ (steps : List LineStep). unless_faulty (faults_of (filter_map entry_of steps)) (draft_from no_draft steps)
    >>= λ draft. job_with (has_timer lines) name draft.unit draft.events (options_of (settings_from false lines)))
    (same_steps zones others no_events (effects_from false lines) first second same)

pub zones_law :
    (zones others : List NamedZone) (name bytes : List ℕ) → are_ascii zones ≡ true → are_ascii others ≡ true →
    HaveSameClocks zones others (timer_zones bytes) → timer_reading (Some zones) name bytes ≡ timer_reading (Some others) name bytes
zones_law zones others name bytes first second same =
    ap (λ (read : TextReading JobParts). cond (is_timer_name name) read (on_line 0 (Err BadTimerName)))
    (same_lines zones others name (timer_lines bytes) first second same)
