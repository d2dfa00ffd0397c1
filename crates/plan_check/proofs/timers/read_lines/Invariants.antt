use denote.Shadow.{shadow}
use denote.Text.{Utf8}
use Rattle.std.proofs.Common.{◌≡◌, false, ◌||◌, ◌++◌, map, drop}
use Rattle.plan_rules.specs.Timer.{effects_from, has_timer, is_reset, settings_from}
use Rattle.plan_rules.specs.TimerOptions.{options_with}
use Rattle.plan_rules.specs.TimerEntries.{count_from, draft_from, draft_of, lines_draft, no_events, no_lines, shown_line, steps_from}
use Rattle.plan_check.specs.Context.{options_by}
use Rattle.plan_check.specs.Settings.{is_monotonic, is_span, last_delay}
use Rattle.plan_check.specs.Timers.{lines_findings}
use Rattle.plan_check.proofs.TimerLinesLemmas.{delay_with, stands_with}
use Rattle.plan_check.proofs.timers.read_lines.Given as goal

-- what was found, with what the remaining lines add to it, is what is found in all lines; the delay is text
abbrev pub invariant-loop-line : goal.invariant-loop-line
invariant-loop-line l =
    let left = map shown_line (drop l.line-index l.lines) in
    let all = map shown_line l.lines in
    record {
      found : l.found.items ++ lines_findings l.clock l.reader left
          ≡ l.fn.found.items ++ lines_findings l.clock (no_lines l.context.zones) all;
      section : (l.reader.found || has_timer left) ≡ has_timer all;
      count : count_from l.reader.count (effects_from l.reader.inside left) ≡ count_from no_events (effects_from false all);
      monotonic : stands_with is_span is_reset l.standing.monotonic (settings_from l.reader.inside left)
          ≡ is_monotonic (settings_from false all);
      options : options_with l.standing.options (settings_from l.reader.inside left)
          ≡ options_with (options_by l.context.accuracy) (settings_from false all);
      settings : l.settings.items ++ settings_from l.reader.inside left ≡ settings_from false all;
      delay : delay_with l.delay (settings_from l.reader.inside left) ≡ last_delay (settings_from false all);
      delay_is_text : shadow (Utf8 l.delay);
      draft : draft_from (draft_of l.draft) (steps_from l.reader.zones l.reader.count (effects_from l.reader.inside left))
          ≡ lines_draft l.context.zones all;
    }
