-- A text with a specifier is rejected (`rejected`); any other means what its words mean (`plain`).
use Rattle.std.proofs.Common.{◌≡◌, ℕ, false, List, map, refl, ap, sym, ◌∙◌, subst, true≢false}
use Rattle.plan_match.specs.declared.event.Calendar.{Calendar}
use Rattle.plan_match.specs.WithinLimits.{EventIsWithinLimits}
use Rattle.plan_texts.specs.Text.{words}
use Rattle.plan_grammar.specs.Readings.{Gives, Reading}
use Rattle.plan_grammar.specs.Event.{has_specifier, event_reading, words_reading}
use Rattle.plan_grammar.specs.EventZones.{Zones}
use Rattle.plan_grammar.proofs.LimitsLemmas as limits
use Rattle.plan_grammar.proofs.TextFaults.{part_of_memory, no_specifier}
use Rattle.plan_grammar.proofs.EventFaults.{all_words}
use Rattle.plan_grammar.proofs.event.calendar_event.Goals as goal
use Rattle.plan_grammar.proofs.event.calendar_event.Goals.{After-drop-words}

plain :
    (zones : Zones) (text : List ℕ) → has_specifier text ≡ false → event_reading zones text ≡ words_reading zones (words text)
plain zones text none = rw none refl

none : (c : After-drop-words) → has_specifier c.args.text.now ≡ false
none c = ap has_specifier (sym c.as_bytes.ensures.value) ∙ sym c.contains.ensures.value ∙ c.if-contains.false

meaning : (c : After-drop-words) → Gives c.event_of_words.result (event_reading c.args.zones.now c.args.text.now)
meaning c =
    let found = ap (map (λ word. word.now)) c.as_slice.ensures.value ∙ c.in_ok-words.ensures ∙ ap words c.as_bytes-2.ensures.value in
    let P : Reading Calendar → Type 0 = Gives c.event_of_words.result in
    subst P (ap (words_reading c.args.zones.now) found ∙ sym (plain c.args.zones.now c.args.text.now (none c))) c.event_of_words.ensures

pub returns-clause-within : goal.returns-clause-within
returns-clause-within c =
    limits.answered EventIsWithinLimits c.event_of_words.result (event_reading c.args.zones.now c.args.text.now) (meaning c)
    (limits.event c.args.zones.now c.args.text.now)

pub returns-clause-memory : goal.returns-clause-memory
returns-clause-memory c = part_of_memory _ _ c.event_of_words.ensures (all_words _ _)

pub returns-clause-specifier : goal.returns-clause-specifier
returns-clause-specifier c = (
  λ is. absurd (no_specifier _ _ _ c.event_of_words.ensures (all_words _ _) refl is),
  λ has. absurd (true≢false (sym has ∙ none c)),
)
