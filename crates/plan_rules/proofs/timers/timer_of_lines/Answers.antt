-- Line by line: the state and the remaining lines mean what the whole text means.
use Rattle.std.proofs.Common.{◌+◌, drop, map, None, ap, sym, ◌∙◌}
use Rattle.plan_rules.specs.TimerOptions.{options_after}
use Rattle.plan_rules.specs.TimerEntries.{draft_after, draft_of, fault_in_line, shown_line}
use Rattle.plan_rules.proofs.TimerLemmas.{rest_reading, rest_reading-more}
use Rattle.plan_rules.proofs.timers.timer_of_lines.Goals as goal

pub loop-line-init : goal.loop-line-init
loop-line-init c =
    let lines = map shown_line c.args.lines.now in
    λ i. rest_reading c.args.name.now (c.new-reader.ensures i) (c.new-draft.ensures i) (c.new-options.ensures i) lines

pub loop-line-preserved : goal.loop-line-preserved
loop-line-preserved c =
    let old = c.loop-line in
    let step = c.in_ok-read.ensures.line in
    (λ i. rest_reading c.args.name.now (c.in_ok-read.ensures.after i)
    ((c.in_ok-add.ensures ∙ ap (draft_after (draft_of old.draft)) step) i)
    ((c.after-options.ensures ∙ ap (options_after old.options) c.setting.ensures) i)
    (map shown_line (drop (old.line-index + 1) c.args.lines.now)))
    ∙ sym (rest_reading-more shown_line c.args.name.now old.reader (draft_of old.draft) old.options c.args.lines.now old.line-index
    c.line-item.result None c.loop-line-test.true c.line-item.is (c.in_default.ensures ∙ ap fault_in_line step))
    ∙ old.invariant
