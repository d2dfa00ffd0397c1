use Rattle.std.proofs.Common.{◌∙◌, ◌+◌, ◌++◌, ℕ, List, ap, drop, subst, sym}
use Rattle.plan_collect.specs.Agenda.{IsInYears}
use Rattle.plan_write.specs.Quiet.{gaps}
use Rattle.agenda_table.proofs.GapLemmas.{gap_found, gap_last, gaps_left}
use Rattle.agenda_table.proofs.gaps.Gaps.new.Goals as goal

pub loop-entry-init : goal.loop-entry-init
loop-entry-init c = λ k.
    c.new.ensures.items k ++ gaps_left c.args.least c.args.jobs.now (c.since-reach.ensures.value k) (c.upto-upto.ensures.value k)
    (c.entries-entries.ensures.entries k)

pub loop-entry-preserved : goal.loop-entry-preserved
loop-entry-preserved c =
    let least = c.args.least in
    let jobs = c.args.jobs.now in
    let upto = c.upto-upto.result in
    let entries = c.entries-entries.result.now in
    let i = c.loop-entry.entry-index in
    let years = subst IsInYears (sym c.entries-entries.ensures.entries) c.entries-entries.ensures.years in
    ap (λ (found : List (ℕ × ℕ)). found ++ gaps_left least jobs c.max-reach.result upto (drop (i + 1) entries)) c.in_ok-push.ensures
    ∙ gap_found least jobs c.loop-entry.reach upto entries i c.entry-item.result c.latest_start_of.result c.second.result
    c.max-reach.result c.loop-entry.found (gaps least c.args.agenda.now jobs) c.loop-entry-test.true c.entry-item.is
    c.latest_start_of.ensures c.upto-upto.ensures.years years c.second.ensures c.max-reach.ensures c.loop-entry.invariant

pub returns : goal.returns
returns c =
    c.in_ok-push-2.ensures ∙ ap (λ (left : List (ℕ × ℕ)). c.loop-entry.found ++ left)
    (sym (gap_last c.args.least c.args.jobs.now c.loop-entry.reach c.upto-upto.result c.entries-entries.result.now
    c.loop-entry.entry-index c.loop-entry-test.false)) ∙ c.loop-entry.invariant
