-- Worked rows of crontabs, read only by the definitions. No proof uses them: they show what `crontab` should mean.
-- A row is `refl` once the definitions that it names are unfolded. The row of a set's members needs a law of
-- sets, and the row of a text that is too large takes the text's length as given.
use Rattle.std.proofs.Common.{◌≡◌, ℕ, Bool, true, false, List, [], ◌∷◌, length, map, codes, Option, Some, None, Ok, Err, refl}
use Rattle.plan_sets.specs.declared.item.SetFault.TheVariants.{OutOfRange, Backwards}
use Rattle.plan_sets.specs.ValuesLaws.{has_value-values_where}
use Rattle.plan_rules.specs.declared.crontabs.Kind.TheVariants.{User, System}
use Rattle.plan_grammar.specs.declared.fault.RuleCause.{RuleCause}
use Rattle.plan_grammar.specs.declared.fault.RuleCause.TheVariants.{WrongParts, BadNumber, BadName, Values, UnknownWord}
use Rattle.plan_rules.specs.declared.line_fault.LineCause.{LineCause}
use Rattle.plan_rules.specs.declared.line_fault.LineCause.TheVariants.{NotUtf8, TooLarge, BadSetting, Rule, NoCommand}
use Rattle.plan_grammar.specs.Cron.{week_days_of}
use Rattle.plan_match.specs.Match.{rule_matches}
use Rattle.plan_texts.specs.Lines.{lines}
use Rattle.plan_rules.specs.LineFaults.{TextReading}
use Rattle.plan_rules.specs.Job.{JobParts}
use Rattle.plan_rules.specs.Crontab.{crontab_reading}
use Rattle.plan_facts.specs.Rows.{RowsHold, at_minute}
use Rattle.plan_facts.proofs.OnTexts.{on_crontabs}

-- the error of a line
on : ℕ → LineCause → TextReading (List JobParts)
on number cause = Err (record { line = number; cause = cause })

-- the error of a rule in a line
part : ℕ → RuleCause → LineCause
part place cause = Rule (record { part = place; cause = cause })

-- the lines of some texts: what follows the last newline is a line if it isn't empty, and a carriage return stays
text_lines : map lines (codes "" ∷ codes "\n" ∷ codes "a" ∷ codes "a\n" ∷ codes "a\n\nb\r\n \n" ∷ [])
    ≡ []
    ∷ ([] ∷ [])
    ∷ (codes "a" ∷ [])
    ∷ (codes "a" ∷ [])
    ∷ (codes "a" ∷ [] ∷ codes "b\r" ∷ codes " " ∷ [])
    ∷ []
unfolding lines
text_lines = refl

-- a comment and a setting make no job; the last line needs no newline
abbrev nightly : List ℕ
nightly = codes "# nightly\nMAILTO=x\n@reboot a\n@daily b"

-- the names of the jobs of a text, their users and their commands
abbrev parts_of : TextReading (List JobParts) → List (List ℕ × Option (List ℕ) × List ℕ)
parts_of (Ok jobs) = map (λ job. (job.name, job.user, job.command)) jobs
parts_of (Err fault) = []

reboot_and_daily :
    parts_of (crontab_reading (codes "cron") User nightly) ≡
    (codes "cron:3", None, codes "a") ∷ (codes "cron:4", None, codes "b") ∷ []
unfolding on_crontabs
reboot_and_daily = refl

-- the system's crontab: the user and the command
abbrev parts_hourly : List ℕ
parts_hourly = codes "17 * * * * root cd / && run-parts x"

run_parts :
    parts_of (crontab_reading (codes "system") System parts_hourly) ≡
    (codes "system:1", Some (codes "root"), codes "cd / && run-parts x") ∷ []
unfolding on_crontabs
run_parts = refl

-- whether the first job of a text matches civil fields
abbrev first_matches : TextReading (List JobParts) → List (ℕ × ℕ) → List Bool
first_matches (Ok (job ∷ jobs)) times = map (λ (time : ℕ × ℕ). rule_matches job.rule (at_minute 1 1 0 time.0 time.1)) times
first_matches other times = []

-- at 00:17:00 and 01:17:00, not at 00:00:00
run_parts_hourly :
    first_matches (crontab_reading (codes "system") System parts_hourly) ((0, 17) ∷ (1, 17) ∷ (0, 0) ∷ []) ≡ true ∷ true ∷ false ∷ []
unfolding on_crontabs week_days_of at_minute
run_parts_hourly = simp has_value-values_where

-- what a user's job runs is kept as it is written, without the blanks before it
kept_as_written : map (λ text. parts_of (crontab_reading (codes "cron") User text))
    (codes " \t# * * * * x\n \n@daily\t a # b % \n" ∷ codes "\"A\"=x\n@daily a\r" ∷ [])
    ≡ ((codes "cron:3", None, codes "a # b % ") ∷ [])
    ∷ ((codes "cron:2", None, codes "a\r") ∷ [])
    ∷ []
unfolding on_crontabs
kept_as_written = refl

-- invalid texts of a user, each with its error
user_rejections : RowsHold (crontab_reading (codes "cron") User)
    ((codes "MAILTO x", on 1 BadSetting)
    ∷ (codes "* * * * *", on 1 NoCommand)
    ∷ (codes "@daily", on 1 NoCommand)
    ∷ (codes "@daily\t", on 1 NoCommand)
    ∷ (codes "@every x", on 1 (part 0 UnknownWord))
    ∷ (codes "0 0 * x", on 1 (part 0 WrongParts))
    ∷ (codes "0 0 * * x", on 1 (part 5 BadName))
    ∷ (codes "0 0 * foo * x", on 1 (part 4 BadName))
    ∷ (codes "1,,2 * * * * x", on 1 (part 1 WrongParts))
    ∷ (codes "12345 * * * * x", on 1 (part 1 BadNumber))
    ∷ (codes "0 0 * * sat-sun x", on 1 (part 5 (Values Backwards)))
    ∷ (codes "\n\n99 * * * *\nMAILTO", on 3 (part 1 (Values OutOfRange)))
    ∷ ((255 ∷ []), on 0 NotUtf8)
    ∷ [])
unfolding on_crontabs on part
user_rejections = refl

-- a user without a command
user_alone :
    map (crontab_reading (codes "system") System) (codes "* * * * * root" ∷ codes "@daily root \t" ∷ codes "@daily" ∷ []) ≡
    on 1 NoCommand ∷ on 1 NoCommand ∷ on 1 NoCommand ∷ []
unfolding on_crontabs on
user_alone = refl

-- one byte too many
too_large : (bytes : List ℕ) → length bytes ≡ 1048577 → crontab_reading (codes "cron") User bytes ≡ on 0 TooLarge
unfolding on
too_large bytes long = rw long refl
