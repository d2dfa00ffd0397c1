-- A rule that is given by itself, by its text.
use Rattle.std.specs.Prelude.{ℕ, Bool, false, ◌==◌, ◌||◌, if◌then◌else◌, List, length, slice_get}
use Rattle.std.specs.Option.{option_map_or}
use Rattle.std.specs.Str.{byte}
use Rattle.plan_texts.specs.Text.{begins_with, words}
use Rattle.agenda_sources.specs.declared.asked.Asked.{Asked}
use Rattle.agenda_sources.specs.declared.asked.Asked.TheVariants.{Cron, Event}

-- whether a rule is one of cron: it has five words, or its first word begins with `@` (agenda)
abbrev pub is_of_cron : List ℕ → Bool
is_of_cron text =
    (length (words text) == 5) || option_map_or (λ word. begins_with (λ b. b == byte "@") word) (slice_get (words text) 0) false

-- a rule with a text, which is a calendar event if it isn't one of cron (agenda)
abbrev pub asked_in : List ℕ → Asked
asked_in text = if is_of_cron text then Cron text else Event text
