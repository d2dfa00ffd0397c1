-- For `jobs_of_lines`: each iteration reads one more line, with an entry or without. Only at a return is `entries_of_lines` unfolded.
use Rattle.std.proofs.Common.{sym, ◌∙◌}
use Rattle.std.proofs.lemmas.Result.{err_from_is_err_and}
use Rattle.plan_rules.specs.Crontab.{line_entry, entries_of_lines}
use Rattle.plan_rules.proofs.CrontabLemmas.{rest_entry, rest_end}
use Rattle.plan_rules.proofs.crontabs.jobs_of_lines.Goals as goal

pub returns-in_err-accepted : goal.returns-in_err-accepted
unfolding entries_of_lines
returns-in_err-accepted c =
    let from = c.from_residual-in_err-accepted in
    let p = err_from_is_err_and from.result from.ensures.1 in
    rw (p.1, p.2)
    (λ kept. sym c.loop-place.invariant
    ∙ rest_entry (line_entry c.args.label.now c.args.kind) (λ line. line.now) c.loop-place.jobs.items c.args.lines.now
    c.loop-place.place _ c.in-Some.entry _ c.loop-place-test.true (sym c.in_ok-entry.ensures ∙ c.in-Some.is)
    c.in_err-accepted.ensures)

pub returns : goal.returns
unfolding entries_of_lines
returns c =
    sym c.loop-place.invariant
    ∙ rest_end (line_entry c.args.label.now c.args.kind) (λ line. line.now) c.loop-place.jobs.items c.args.lines.now
    c.loop-place.place c.loop-place-test.false
