-- The values of the arguments of the command line, and the errors of arguments.
use Rattle.std.specs.Prelude.{ℕ, Bool, false, List, [], ◌∷◌, Option, Some, None, Result, Ok, Err}
use Rattle.std.specs.Prelude.{codes, if◌then◌else◌, option_and_then, true, unwrap_or}
use Rattle.std.specs.Option.{option_map_or}
use Rattle.std.specs.Str.{bytes_eq}
use Rattle.std.specs.Str.Parse.{digits_value, without_leading_plus}
use Rattle.clap.specs.ValueTests.{accepts}
use Rattle.clap.specs.Words.{Kinds, Row, all_of, first_of, one_of}
use Rattle.clap.specs.declared.builder.value_parser.ValueParser.TheVariants as parser
use Rattle.clap.specs.declared.error.kind.ErrorKind.{ErrorKind}
use Rattle.clap.specs.declared.error.kind.ErrorKind.TheVariants.{DisplayHelp, DisplayVersion}
use Rattle.plan_texts.specs.Steps.{◌>>=◌}
use Rattle.plan_collect.specs.declared.Sizes.{Sizes}
use Rattle.agenda_arguments.specs.declared.ask.Ask.{Ask}
use Rattle.agenda_policy.specs.declared.Policy.{Policy}
use Rattle.agenda_policy.specs.Reading.{ValueReading, policy_reading}
use Rattle.agenda_sources.specs.declared.Asked.{Asked}
use Rattle.agenda_sources.specs.declared.Asked.TheVariants.{Cron, Event}

-- why arguments request no command: they request help or the version, or they are invalid (agenda)
pub data ArgumentsFault : Type 0 where
  wants_help : ArgumentsFault
  is_usage : ArgumentsFault

-- the value of a required option (agenda)
abbrev pub wanted : {X : Type 0} → Option X → Result X ArgumentsFault
wanted None = Err is_usage
wanted (Some x) = Ok x

-- the number that a text gives in decimal digits, if it has at most 32 bits (agenda)
abbrev pub number_in_text : List ℕ → Option ℕ
number_in_text text = if accepts false (parser.Unsigned 0 4294967295) text
    then Some (digits_value 10 (without_leading_plus text)) else None

-- the number in an optional text (agenda)
abbrev pub number_in : Option (List ℕ) → Option ℕ
number_in text = option_and_then number_in_text text

-- exactly one of a cron rule and a calendar event is required (agenda)
abbrev pub one_rule : Option (List ℕ) → Option (List ℕ) → Result Asked ArgumentsFault
one_rule (Some cron) None = Ok (Cron cron)
one_rule None (Some calendar) = Ok (Event calendar)
one_rule (Some cron) (Some calendar) = Err is_usage
one_rule None None = Err is_usage

-- the text of the zone, which is optional (agenda)
abbrev pub zone_in : List Row → Option (List ℕ)
zone_in rows = first_of (codes "zone") rows

-- whether a flag is given: the first value of its option is `true` then, and `false` otherwise (agenda)
abbrev pub is_given : (name : List ℕ) → List Row → Bool
is_given name rows = option_map_or (λ value. bytes_eq value (codes "true")) (first_of name rows) false

-- the sizes of a plan, in the order in which they are checked (agenda)
abbrev pub sizes_in : List Row → Result Sizes ArgumentsFault
sizes_in rows = do
  planners ← wanted (number_in (one_of (codes "planners") rows))
  room ← wanted (number_in (one_of (codes "room") rows))
  limit ← wanted (number_in (one_of (codes "limit") rows))
  Ok (record { planners = planners; room = room; limit = limit })

-- all values of an option, in the order of the arguments (agenda)
abbrev pub all_values : (name : List ℕ) → List Row → List (List ℕ)
all_values name rows = unwrap_or (all_of name rows) []

-- the sizes of a search, in the order in which they are checked: it stops at the first start (agenda)
abbrev pub search_sizes_in : List Row → Result Sizes ArgumentsFault
search_sizes_in rows = do
  planners ← wanted (number_in (one_of (codes "planners") rows))
  room ← wanted (number_in (one_of (codes "room") rows))
  Ok (record { planners = planners; room = room; limit = 1 })

-- a policy, or a usage error (agenda)
abbrev pub policy_or_usage : ValueReading Policy → Result Policy ArgumentsFault
policy_or_usage (Ok policy) = Ok policy
policy_or_usage (Err text) = Err is_usage

-- which warnings are errors, and which are left out, by the values of `--deny` and `--allow` (agenda)
abbrev pub policy_in : List Row → Result Policy ArgumentsFault
policy_in rows = policy_or_usage (policy_reading (all_values (codes "deny") rows) (all_values (codes "allow") rows))

-- how an error of clap is answered: help and the version are printed, and all other errors are usage errors (agenda)
abbrev pub fault_of_kind : ErrorKind → ArgumentsFault
fault_of_kind DisplayHelp = wants_help
fault_of_kind DisplayVersion = wants_help
fault_of_kind _ = is_usage

-- arguments that clap rejects request nothing; the first error decides (agenda)
abbrev pub asked_unless : Kinds → Result Ask ArgumentsFault → Result Ask ArgumentsFault
asked_unless [] read = read
asked_unless (kind ∷ _) read = Err (fault_of_kind kind)
