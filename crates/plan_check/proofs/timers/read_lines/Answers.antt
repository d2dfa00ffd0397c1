-- Line by line: what was found so far, with what the remaining lines add to it, is what is found in all lines.
use Rattle.std.proofs.Common.{◌≡◌, ◌+◌, ◌++◌, ◌||◌, [], append-nil, append_assoc, drop, map, ap, refl, rules, sym, ◌∙◌}
use Rattle.std.proofs.lemmas.List.{drop_all}
use Rattle.std.specs.List.{cons_option}
use Rattle.plan_rules.specs.Timer.{effects_from, has_timer, is_reset, settings_from, timer_setting}
use Rattle.plan_rules.specs.TimerOptions.{options_with}
use Rattle.plan_rules.specs.TimerEntries.{EventCount, TimerState, count_from, draft_from, draft_of, shown_line, state_after, steps_from}
use Rattle.plan_rules.proofs.TimerEntryLemmas.{count_step, lines_more, section_step}
use Rattle.plan_rules.proofs.TimerLemmas.{options_front}
use Rattle.plan_check.specs.declared.settings.Standing.{Standing}
use Rattle.plan_check.specs.Settings.{delay_after, is_span, standing_after}
use Rattle.plan_check.specs.Timers.{lines_findings}
use Rattle.plan_check.proofs.TimerLinesLemmas.{delay_front, delay_with, kept_front, one_more, section_last, stands_front, stands_last, stands_with}
use Rattle.plan_check.proofs.timers.read_lines.Goals as goal

pub loop-line-init : goal.loop-line-init
loop-line-init c =
    let all = map shown_line c.args.lines.now in
    let state = c.new-reader.ensures in
    let settings = ap (λ (s : TimerState). settings_from s.inside all) state in
    let stood = c.new-standing.ensures in
    record {
      found = ap (λ (s : TimerState). c.args.found.now.items ++ lines_findings c.args.clock.now s all) state;
      section = ap (λ (s : TimerState). s.found || has_timer all) state;
      count = ap (λ (s : TimerState). count_from s.count (effects_from s.inside all)) state;
      monotonic = λ i. stands_with is_span is_reset (stood i).monotonic (settings i);
      options = λ i. options_with (stood i).options (settings i);
      draft = λ i. draft_from (c.new-draft.ensures i)
          (steps_from (state i).zones (state i).count (effects_from (state i).inside all));
      settings = λ i. c.new-settings.ensures.items i ++ settings i;
      delay = ap (delay_with []) settings;
      delay_is_text = search rules;
    }

pub loop-line-preserved : goal.loop-line-preserved
loop-line-preserved c =
    let line = shown_line c.line-item.result in
    let more = map shown_line (drop (c.loop-line.line-index + 1) c.args.lines.now) in
    let old = c.loop-line.reader in
    let new = c.in_ok-add_line.ensures.reader in
    let stood = c.loop-line.standing in
    let setting = timer_setting old.inside line.1 in
    let settings = settings_from (state_after old line.1).inside more in
    let so_far = c.loop-line.invariant in
    let next =
    sym (lines_more shown_line c.args.lines.now c.loop-line.line-index c.line-item.result c.loop-line-test.true c.line-item.is) in
    let stands : c.after-standing.result ≡ standing_after stood setting =
    c.after-standing.ensures ∙ ap (standing_after stood) c.setting-setting.ensures in
    record {
      found = one_more (λ found s left. found ++ lines_findings c.args.clock.now s left) old line more next
          c.in_ok-add_line.ensures.found new (sym (append_assoc c.loop-line.found.items _ _)) so_far.found;
      section = section_step old c.add_line.new.reader line more _ new (ap (λ left. old.found || has_timer left) next ∙ so_far.section);
      count = count_step old c.add_line.new.reader line more _ new
          (ap (λ left. count_from old.count (effects_from old.inside left)) next ∙ so_far.count);
      monotonic = one_more (λ stands s left. stands_with is_span is_reset stands (settings_from s.inside left)) old line more next
          (ap (λ (s : Standing). s.monotonic) stands) new (stands_front is_span is_reset stood.monotonic setting settings) so_far.monotonic;
      options = one_more (λ options s left. options_with options (settings_from s.inside left)) old line more next
          (ap (λ (s : Standing). s.options) stands) new (options_front stood.options setting settings) so_far.options;
      settings = one_more (λ kept s left. kept ++ settings_from s.inside left) old line more next
          (c.in_ok-keep_setting.ensures ∙ ap (λ s. c.loop-line.settings.items ++ cons_option s []) c.setting-setting.ensures) new
          (kept_front c.loop-line.settings.items setting settings) so_far.settings;
      delay = one_more (λ delay s left. delay_with delay (settings_from s.inside left)) old line more next
          (c.delay_after-delay.ensures ∙ ap (delay_after c.loop-line.delay.now) c.setting-setting.ensures) new
          (delay_front c.loop-line.delay.now setting settings) so_far.delay;
      delay_is_text = c.delay_after-delay.utf8;
      draft = one_more (λ draft s left. draft_from draft (steps_from s.zones s.count (effects_from s.inside left))) old line more next
          c.in_ok-add_line.ensures.draft new refl so_far.draft;
    }

pub returns : goal.returns
returns c =
    let now = c.loop-line.reader in
    let stood = c.loop-line.standing in
    let found = c.loop-line.found.items in
    let so_far = c.loop-line.invariant in
    let none = sym (ap (map shown_line) (drop_all c.loop-line.line-index c.args.lines.now c.loop-line-test.false)) in
    let section = sym (section_last now.found) ∙ ap (λ left. now.found || has_timer left) none ∙ so_far.section in
    let held = ap (λ (count : EventCount). count.held) (ap (λ left. count_from now.count (effects_from now.inside left)) none ∙ so_far.count) in
    let monotonic = sym (stands_last is_span is_reset stood.monotonic)
    ∙ ap (λ left. stands_with is_span is_reset stood.monotonic (settings_from now.inside left)) none ∙ so_far.monotonic in
    let options = ap (λ left. options_with stood.options (settings_from now.inside left)) none ∙ so_far.options in
    let delay = ap (λ left. delay_with c.loop-line.delay.now (settings_from now.inside left)) none ∙ so_far.delay in
    let settings = sym (append-nil c.loop-line.settings.items)
    ∙ ap (λ left. c.loop-line.settings.items ++ settings_from now.inside left) none ∙ so_far.settings in
    let draft = ap (λ left. draft_from (draft_of c.loop-line.draft) (steps_from now.zones now.count (effects_from now.inside left))) none
    ∙ so_far.draft in
    record {
      read = λ i. record {
        bad_header = c.has_bad_header-has_bad_header.ensures i;
        has_section = section i;
        held = held i;
        monotonic = monotonic i;
        options = options i;
        delay = delay i;
        settings = settings i;
      };
      draft = draft;
      found = sym (append-nil found) ∙ ap (λ left. found ++ lines_findings c.args.clock.now now left) none ∙ so_far.found;
    }
