-- Worked rows of crontab(5), read only by the definitions.
-- They answer no goal of a function, but test `cron_reading` and `rule_matches`. Each text is computed, with
-- the definitions unfolded. Whether a day or a time matches needs `has_value-values_where` too.
use Rattle.std.proofs.Common.{◌≡◌, ℕ, Bool, true, false, List, [], ◌∷◌, map, codes, Ok, Err, refl}
use Rattle.plan_sets.specs.declared.item.Item.TheVariants.{One, Range}
use Rattle.plan_sets.specs.declared.item.SetFault.TheVariants.{OutOfRange, Backwards, ZeroStep}
use Rattle.plan_sets.specs.declared.civil.Civil.{Civil}
use Rattle.plan_sets.specs.Items.{held_values}
use Rattle.plan_sets.specs.ValuesLaws.{has_value-values_where}
use Rattle.plan_grammar.specs.declared.fault.RuleCause.TheVariants.{WrongParts, BadNumber, BadName, Values, UnknownWord}
use Rattle.plan_match.specs.declared.rule.Rule.{Rule}
use Rattle.plan_match.specs.declared.rule.Rule.TheVariants.{Cron, Never}
use Rattle.plan_texts.specs.Lines.{cut_word}
use Rattle.plan_grammar.specs.Readings.{Reading, rejected}
use Rattle.plan_grammar.specs.Cron.{cron_reading, rule_reading, at_reading, fields_in_front, week_days_of}
use Rattle.plan_match.specs.Match.{rule_matches}
use Rattle.plan_facts.specs.Rows.{RowsHold, at_minute}
use Rattle.plan_facts.proofs.OnTexts.{on_cron}

-- whether a text is a rule that matches civil fields
abbrev match_reading : Reading Rule → Civil → Bool
match_reading (Ok rule) civil = rule_matches rule civil
match_reading (Err fault) civil = false

-- every star is the whole field, and no day field is restricted
every_minute : cron_reading (codes "* * * * *") ≡ Ok (Cron (record {
  minutes = held_values (Range 0 59 1 ∷ []) 0 59;
  hours = held_values (Range 0 23 1 ∷ []) 0 23;
  month_days = held_values (Range 1 31 1 ∷ []) 1 31;
  months = held_values (Range 1 12 1 ∷ []) 1 12;
  week_days = week_days_of (held_values (Range 0 7 1 ∷ []) 0 7);
  month_days_restricted = false;
  week_days_restricted = false;
  is_wildcard = true;
  clock = [];
}))
unfolding on_cron
every_minute = refl

-- lists, and two restricted day fields
half_past_four : cron_reading (codes "30 4 1,15 * 5") ≡ Ok (Cron (record {
  minutes = held_values (One 30 ∷ []) 0 59;
  hours = held_values (One 4 ∷ []) 0 23;
  month_days = held_values (One 1 ∷ One 15 ∷ []) 1 31;
  months = held_values (Range 1 12 1 ∷ []) 1 12;
  week_days = week_days_of (held_values (One 5 ∷ []) 0 7);
  month_days_restricted = true;
  week_days_restricted = true;
  is_wildcard = false;
  clock = [];
}))
unfolding on_cron
half_past_four = refl

-- blanks around the text and between its fields are ignored; `*/2` is unrestricted
odd_days : cron_reading (codes "  0 0 */2   * 1 ") ≡ Ok (Cron (record {
  minutes = held_values (One 0 ∷ []) 0 59;
  hours = held_values (One 0 ∷ []) 0 23;
  month_days = held_values (Range 1 31 2 ∷ []) 1 31;
  months = held_values (Range 1 12 1 ∷ []) 1 12;
  week_days = week_days_of (held_values (One 1 ∷ []) 0 7);
  month_days_restricted = false;
  week_days_restricted = true;
  is_wildcard = false;
  clock = [];
}))
unfolding on_cron
odd_days = refl

-- whether the rule of a text is a wildcard
abbrev has_wildcard : Reading Rule → Bool
has_wildcard (Ok (Cron rule)) = rule.is_wildcard
has_wildcard other = false

-- it is one if the minutes or the hours begin with `*`
wildcards : map (λ text. has_wildcard (cron_reading text))
    (codes "*,5 1 * * *"
    ∷ codes "*/5 1 * * *"
    ∷ codes "0 */2 * * *"
    ∷ codes "@hourly"
    ∷ codes "5,* 1 * * *"
    ∷ codes "0-59 0-23 * * *"
    ∷ codes "30 2 */2 * *"
    ∷ codes "@daily"
    ∷ codes "@weekly"
    ∷ codes "@monthly"
    ∷ codes "@yearly"
    ∷ [])
    ≡ true ∷ true ∷ true ∷ true ∷ false ∷ false ∷ false ∷ false ∷ false ∷ false ∷ false ∷ []
unfolding on_cron
wildcards = refl

-- invalid texts, each with its error
rejections : RowsHold cron_reading
    ((codes "60 * * * *", rejected 1 (Values OutOfRange))
    ∷ (codes "5/15 * * * *", rejected 1 WrongParts)
    ∷ (codes "0 0 * * x", rejected 5 BadName)
    ∷ (codes "0 0 * foo *", rejected 4 BadName)
    ∷ (codes "1,,2 * * * *", rejected 1 WrongParts)
    ∷ (codes "12345 * * * *", rejected 1 BadNumber)
    ∷ (codes "0 5/ * * *", rejected 2 WrongParts)
    ∷ (codes "* * * * 6-0", rejected 5 (Values Backwards))
    ∷ (codes "*/0 * * * *", rejected 1 (Values ZeroStep))
    ∷ (codes " @dayly", rejected 0 UnknownWord)
    ∷ (codes "0 0 * x", rejected 0 WrongParts)
    ∷ (codes "99 0 1 1 * x", rejected 0 WrongParts)
    ∷ (codes " ", rejected 0 WrongParts)
    ∷ [])
unfolding on_cron
rejections = refl

-- the order of the checks within an element: the first value, the second, the step, then whether a step is
-- allowed there. The forms of all elements are checked before the values
first_faults : RowsHold cron_reading
    ((codes "a-b/c * * * *", rejected 1 BadName)
    ∷ (codes "1-b/c * * * *", rejected 1 BadName)
    ∷ (codes "1-2/c * * * *", rejected 1 BadNumber)
    ∷ (codes "x/ * * * *", rejected 1 BadName)
    ∷ (codes "1/x * * * *", rejected 1 BadNumber)
    ∷ (codes "1/2 * * * *", rejected 1 WrongParts)
    ∷ (codes "99,x * * * *", rejected 1 BadName)
    ∷ (codes "99 x * * *", rejected 1 (Values OutOfRange))
    ∷ [])
unfolding on_cron
first_faults = refl

-- whether a text's rule matches midnight of some days of January 2024, given with their weekdays
at_midnight : List ℕ → List (ℕ × ℕ) → List Bool
at_midnight text days = map (λ (day : ℕ × ℕ). match_reading (cron_reading text) (at_minute 1 day.0 day.1 0 0)) days

-- Friday the 5th, by the day of the week, and Monday the 15th, by the day of the month
either_day_suffices : map (λ (day : ℕ × ℕ). match_reading (cron_reading (codes "30 4 1,15 * 5")) (at_minute 1 day.0 day.1 4 30))
    ((5, 4) ∷ (15, 0) ∷ (16, 1) ∷ []) ≡ true ∷ true ∷ false ∷ []
unfolding on_cron week_days_of at_minute
either_day_suffices = simp has_value-values_where

-- a star comes first, so both must match: Mondays the 1st and 15th, not Monday the 8th, not Wednesday the 3rd
star_stands_first : at_midnight (codes "0 0 */2 * 1") ((1, 0) ∷ (3, 2) ∷ (8, 0) ∷ (15, 0) ∷ []) ≡ true ∷ false ∷ false ∷ true ∷ []
unfolding on_cron week_days_of at_minute at_midnight
star_stands_first = simp has_value-values_where

-- weekday 7 is Sunday: Sunday the 7th, not Saturday the 6th
seven_is_sunday : at_midnight (codes "0 0 * * 7") ((6, 5) ∷ (7, 6) ∷ []) ≡ false ∷ true ∷ []
unfolding on_cron week_days_of at_minute at_midnight
seven_is_sunday = simp has_value-values_where

-- a step past the range's end leaves only the first value
step_past_the_end : at_midnight (codes "0 0 1-31/40 * *") ((1, 0) ∷ (2, 1) ∷ (31, 2) ∷ []) ≡ true ∷ false ∷ false ∷ []
unfolding on_cron week_days_of at_minute at_midnight
step_past_the_end = simp has_value-values_where

-- `*/25` is minutes 0, 25 and 50
every_25_minutes : map (λ (minute : ℕ). match_reading (cron_reading (codes "*/25 * * * *")) (at_minute 1 1 0 0 minute))
    (0 ∷ 24 ∷ 25 ∷ 50 ∷ 59 ∷ []) ≡ true ∷ false ∷ true ∷ true ∷ false ∷ []
unfolding on_cron week_days_of at_minute
every_25_minutes = simp has_value-values_where

-- names, in any case of their letters, with a step of hours: Friday the 1st of March at 9 and 17, not at 10, not on Saturday
-- the 2nd, and not on Thursday the 29th of February
named_months_and_days : map (λ (at : ℕ × ℕ × ℕ × ℕ). match_reading (cron_reading (codes "0 9-17/4 * jan,Mar MON-fri"))
    (at_minute at.0 at.1 at.2 at.3 0))
    ((3, 1, 4, 9) ∷ (3, 1, 4, 17) ∷ (3, 1, 4, 10) ∷ (3, 2, 5, 9) ∷ (2, 29, 3, 9) ∷ []) ≡ true ∷ true ∷ false ∷ false ∷ false ∷ []
unfolding on_cron week_days_of at_minute
named_months_and_days = simp has_value-values_where

-- names are allowed only in fields 4 and 5, never as a step, and a range of names may be backwards
rejected_names : RowsHold cron_reading
    ((codes "jan * * * *", rejected 1 BadName)
    ∷ (codes "* * mon * *", rejected 3 BadName)
    ∷ (codes "* * * mon *", rejected 4 BadName)
    ∷ (codes "* * * */jan *", rejected 4 BadNumber)
    ∷ (codes "0 0 * * sat-sun", rejected 5 (Values Backwards))
    ∷ (codes "* * * * sunday", rejected 5 BadName)
    ∷ (codes "@Daily", rejected 0 UnknownWord)
    ∷ (codes "@daily x", rejected 0 UnknownWord)
    ∷ [])
unfolding on_cron
rejected_names = refl

-- each word of the table is its five fields, and `@reboot` never starts a job
at_words_are_fields : map cron_reading
    (codes "@yearly" ∷ codes "@annually" ∷ codes "@monthly" ∷ codes " @weekly" ∷ codes "@daily " ∷ codes "@midnight" ∷ codes "@hourly" ∷ [])
    ≡ map cron_reading
    (codes "0 0 1 1 *" ∷ codes "0 0 1 1 *" ∷ codes "0 0 1 * *" ∷ codes "0 0 * * 0" ∷ codes "0 0 * * *" ∷ codes "0 0 * * *" ∷ codes
    "0 * * * *" ∷ [])
unfolding rule_reading cut_word fields_in_front at_reading
at_words_are_fields = refl

reboot_never_starts : cron_reading (codes "@reboot") ≡ Ok Never
unfolding rule_reading cut_word fields_in_front at_reading
reboot_never_starts = refl
