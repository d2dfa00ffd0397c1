-- The gaps are taken one after the other, with those after a reach as what is left.
use Rattle.std.proofs.Common.{[], ◌++◌, sym, subst, arith, refl}
use Rattle.plan_collect.specs.Agenda.{IsInYears}
use Rattle.plan_streams.proofs.StreamLemmas.{takes_both, takes_none}
use Rattle.plan_write.specs.Quiet.{line_of_gap, quiet_text}
use Rattle.plan_write.proofs.QuietLemmas.{line_taken}
use Rattle.plan_write.proofs.quiet.write_quiet.Goals as goal

pub loop-entry-init : goal.loop-entry-init
loop-entry-init g c = (
  (
    [],
    takes_none g.S.Stream.holds g.S.Stream.takes_all c.new-lines.result,
    rw (c.since-reach.ensures.value, c.upto-upto.ensures.value, c.entries-entries.ensures.entries) refl,
  ),
  omega (arith, c.since-reach.ensures.ordered, c.upto-upto.ensures.years, c.upto-upto.ensures.value),
)

pub loop-entry-preserved : goal.loop-entry-preserved
loop-entry-preserved g c =
    let entries = c.entries-entries.result.now in
    let line = line_of_gap c.args.format.now c.args.least (c.loop-entry.reach, c.second.result) in
    let (taken, takes, left) = c.loop-entry.invariant.0 in (
      (
        taken ++ line,
        takes_both g.S.Stream.holds g.S.Stream.takes_all c.new-lines.result c.loop-entry.lines c.put_gap.new.lines taken line
            (taken ++ line) takes c.put_gap.ensures refl,
        line_taken c.args.format.now c.args.least c.args.jobs.now c.loop-entry.reach c.upto-upto.result entries
            c.loop-entry.entry-index c.entry-item.result c.latest_start_of.result c.second.result c.max-reach.result taken
            (quiet_text c.args.format.now c.args.least c.args.agenda.now c.args.jobs.now) c.loop-entry-test.true c.entry-item.is
            c.latest_start_of.ensures.value c.upto-upto.ensures.years
            (subst IsInYears (sym c.entries-entries.ensures.entries) c.entries-entries.ensures.years) c.second.ensures
            c.max-reach.ensures left,
      ),
      omega (arith, c.max-reach.ensures, c.latest_start_of.ensures.years, c.loop-entry.invariant.1),
    )
