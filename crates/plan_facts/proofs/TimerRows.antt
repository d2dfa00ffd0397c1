-- Worked rows of timer files, read only by the definitions.
use Rattle.std.proofs.Common.{◌≡◌, ℕ, Bool, true, false, List, [], ◌∷◌, ◌++◌, map, codes, None, Ok, Err, refl}
use Rattle.std.specs.List.{enumerate_from}
use Rattle.plan_sets.specs.declared.civil.Civil.{Civil}
use Rattle.plan_sets.specs.declared.item.SetFault.TheVariants.{OutOfRange}
use Rattle.plan_sets.specs.ValuesLaws.{has_value-values_where}
use Rattle.plan_grammar.specs.declared.fault.RuleCause.{RuleCause}
use Rattle.plan_grammar.specs.declared.fault.RuleCause.TheVariants.{WrongParts, Values, UnknownWord, Specifier}
use Rattle.plan_rules.specs.declared.line_fault.LineCause.{LineCause}
use Rattle.plan_rules.specs.declared.line_fault.LineCause.TheVariants.{Rule, BadTimerName, NoTimerSection, TooManyLines}
use Rattle.plan_match.specs.declared.rule.Rule.TheVariants.{Events}
use Rattle.plan_texts.specs.Steps.{◌>>=◌, each}
use Rattle.plan_grammar.specs.Event.{event_reading}
use Rattle.plan_match.specs.Match.{rule_matches}
use Rattle.plan_spans.specs.Spans.{number_in_front, pair_in_front, sum_of_pairs, time_span, unit_in_front}
use Rattle.plan_texts.specs.Lines.{lines}
use Rattle.plan_rules.specs.LineFaults.{TextReading, in_line, on_line}
use Rattle.plan_rules.specs.Job.{JobParts}
use Rattle.plan_texts.specs.WholeLines.{whole_lines}
use Rattle.plan_rules.specs.TimerEntries.{timer_of_lines, timer_reading}
use Rattle.plan_facts.specs.Rows.{RowsHold}
use Rattle.plan_facts.proofs.OnTexts.{on_timers}

-- the whole lines of some files: comments inside merged lines, an even and an odd number of backslashes, a
-- backslash before a blank, carriage returns, a line of blanks, and the end of the file
joined_lines : RowsHold whole_lines
    ((codes "a\n\n  b \\\n# c\\\n\td\n", ((1, codes "a") ∷ (2, []) ∷ (3, codes "b  d") ∷ []))
    ∷ (codes "a\\", ((1, codes "a ") ∷ []))
    ∷ (codes "a\\\\\nb", ((1, codes "a\\\\") ∷ (2, codes "b") ∷ []))
    ∷ (codes "a\\ \nb", ((1, codes "a\\ ") ∷ (2, codes "b") ∷ []))
    ∷ (codes "a\\\\\\\r\n;b\nc\\\n \t\r\nd", ((1, codes "a\\\\ c ") ∷ (5, codes "d") ∷ []))
    ∷ (codes "#a\\\nb", ((2, codes "b") ∷ []))
    ∷ [])
unfolding whole_lines lines
joined_lines = refl

-- the job of the file `x.timer` that starts a unit by the events of some texts, with the delay of a timer without any setting: a
-- minute
abbrev job_of : List ℕ → List (List ℕ) → TextReading JobParts
job_of unit texts =
    on_line 1 (in_line (each (event_reading None) texts)) >>= λ events.
    Ok (record { name = codes "x.timer"; user = None; command = unit; rule = Events events; delay = 60; persistent = false })

files : RowsHold (timer_reading None (codes "x.timer"))
    -- a reset empties the list of events
    ((
      codes "[Timer]\nOnCalendar=hourly\nOnCalendar=\nOnCalendar=daily\nOnCalendar=*-*-* 00:00:00\n",
      job_of (codes "x.service") (codes "daily" ∷ codes "*-*-* 00:00:00" ∷ []),
    )
    -- a merged line with a comment inside, and a unit that is named
    ∷ (
      codes "[Unit]\nDescription=x\n[Timer]\nOnCalendar=Mon \\\n# note\n  12:00\nUnit=y.service\n",
      job_of (codes "y.service") (codes "Mon 12:00" ∷ []),
    )
    -- a merged line at the end of the input
    ∷ (codes "[Timer]\nOnCalendar=Mon \\", job_of (codes "x.service") (codes "Mon" ∷ []))
    -- only a `[Timer]` section
    ∷ (codes "[Timer]", job_of (codes "x.service") [])
    -- a monotonic setting with an empty value empties the list too, and one with a value is ignored
    ∷ (codes "[Timer]\nOnCalendar=daily\nOnBootSec=", job_of (codes "x.service") [])
    ∷ (codes "[Timer]\nOnCalendar=daily\nOnBootSec=5min", job_of (codes "x.service") (codes "daily" ∷ []))
    -- a setting before any section, keys in another case, blanks around `=`, several sections, and the first unit
    ∷ (
      codes "OnCalendar=weekly\n[Timer]\noncalendar=weekly\n OnCalendar = daily \n[Install]\nUnit=z\n[Timer]\nUnit=\nUnit=b\nUnit=c",
      job_of (codes "b") (codes "daily" ∷ []),
    )
    ∷ [])
unfolding on_timers
files = refl

-- the delay of the job of a timer file
abbrev delay_in : TextReading JobParts → ℕ
delay_in (Ok job) = job.delay
delay_in (Err fault) = 0

-- the delays of timers, in seconds: a random delay, or the accuracy; of several values the last one counts that is a time span; the
-- sum is rounded up; `infinity`; and settings of other sections don't count
delays : map (λ (text : List ℕ). delay_in (timer_reading None (codes "x.timer") text))
    (codes "[Timer]\nRandomizedDelaySec=12h"
    ∷ codes "[Timer]\nAccuracySec=1us"
    ∷ codes "[Timer]\nRandomizedDelaySec=2h\nAccuracySec=5min\n[Timer]\nRandomizedDelaySec=1h\nAccuracySec=0"
    ∷ codes "[Timer]\nRandomizedDelaySec=1h\nRandomizedDelaySec=5secs\nAccuracySec=1s\nAccuracySec="
    ∷ codes "[Timer]\nRandomizedDelaySec=1.5s\nAccuracySec=500ms"
    ∷ codes "[Timer]\nRandomizedDelaySec=1.5s\nAccuracySec=501ms"
    ∷ codes "[Timer]\nRandomizedDelaySec=infinity"
    ∷ codes "RandomizedDelaySec=1h\n[Timer]\n[Install]\nRandomizedDelaySec=1h"
    ∷ [])
    ≡ 43_260 ∷ 1 ∷ 3_600 ∷ 3_601 ∷ 2 ∷ 3 ∷ 32_503_680_000 ∷ 60 ∷ []
unfolding on_timers time_span sum_of_pairs pair_in_front number_in_front unit_in_front
delays = refl

-- the error of a line
abbrev on : ℕ → LineCause → TextReading JobParts
on number cause = Err (record { line = number; cause = cause })

-- the error of an event in a line
abbrev part : ℕ → RuleCause → LineCause
part place cause = Rule (record { part = place; cause = cause })

-- invalid files, each with its error: a bad name, no section, and errors of events, also if a later line
-- empties the list
rejections : RowsHold (λ (file : List ℕ × List ℕ). timer_reading None file.0 file.1)
    (((codes "x.service", codes "[Timer]"), on 0 BadTimerName)
    ∷ ((codes ".timer", codes "[Timer]"), on 0 BadTimerName)
    ∷ ((codes "a b.timer", codes "[Timer]"), on 0 BadTimerName)
    ∷ ((codes "x.timer", codes "[Unit]"), on 0 NoTimerSection)
    ∷ ((codes "x.timer", codes "[timer]\nOnCalendar=x"), on 0 NoTimerSection)
    ∷ ((codes "x.timer", codes "[Timer]\nOnCalendar==daily"), on 2 (part 0 WrongParts))
    ∷ ((codes "x.timer", codes "[Timer]\n\nOnCalendar=*-*-%i"), on 3 (part 0 Specifier))
    ∷ ((codes "x.timer", codes "[Timer]\nOnCalendar=fortnightly\nOnCalendar="), on 2 (part 0 UnknownWord))
    ∷ ((codes "x.timer", codes "[Timer]\nOnCalendar=Mon \\\n#\n25:00"), on 2 (part 5 (Values OutOfRange)))
    ∷ [])
unfolding on_timers
rejections = refl

abbrev daily : List ℕ
daily = codes "OnCalendar=daily"

abbrev eight_times : List (List ℕ)
eight_times = daily ∷ daily ∷ daily ∷ daily ∷ daily ∷ daily ∷ daily ∷ daily ∷ []

abbrev sixty_four_times : List (List ℕ)
sixty_four_times =
    eight_times ++ eight_times ++ eight_times ++ eight_times ++ eight_times ++ eight_times ++ eight_times ++ eight_times

-- the 65th event is one too many
too_many_events :
    timer_of_lines None (codes "x.timer") ((1, codes "[Timer]") ∷ enumerate_from 2 (sixty_four_times ++ daily ∷ [])) ≡
    Err (record { line = 66; cause = TooManyLines })
unfolding on_timers
too_many_events = refl

-- civil fields of an hour of January 2024
at_hour : ℕ → ℕ → ℕ → Civil
at_hour day weekday hour = record {
  year = 2024;
  month = 1;
  day = day;
  weekday = weekday;
  hour = hour;
  minute = 0;
  second = 0;
}

-- whether the job of a timer file starts at civil fields
abbrev starts_at : TextReading JobParts → Civil → Bool
starts_at (Ok job) civil = rule_matches job.rule civil
starts_at (Err fault) civil = false

-- two events: Wednesday the 3rd at 6, and Friday the 5th at 12, not at 6
either_event :
    map (λ (at : ℕ × ℕ × ℕ). starts_at (timer_reading None (codes "two.timer")
    (codes "[Timer]\nOnCalendar=Fri 12:00\nOnCalendar=*-*-3 06:00"))
    (at_hour at.0 at.1 at.2)) ((3, 2, 6) ∷ (5, 4, 12) ∷ (5, 4, 6) ∷ []) ≡ true ∷ true ∷ false ∷ []
unfolding on_timers at_hour
either_event = simp has_value-values_where
