use Rattle.std.proofs.Common.{ap}
use Rattle.plan_baseline.specs.Line.{Listing}
use Rattle.agenda_commands.proofs.ChangesLemmas.{answers_changes, ascending, found}
use Rattle.agenda_commands.proofs.RemarkLemmas.{planned-in_order}
use Rattle.agenda_commands.proofs.table.make_changes.Goals as goal

pub changes-requires : goal.changes-requires
changes-requires g c =
    ascending _ _ (planned-in_order c.counted-jobs.result c.args.planning.now c.in_ok-agenda.agenda c.in_ok-agenda.ensures.planned)

pub changes_table-requires : goal.changes_table-requires
changes_table-requires g c = rw (← c.deref.ensures.value) at c.in_ok-changes.ensures

pub returns-clause-made : goal.returns-clause-made
returns-clause-made g c =
    answers_changes c.args.form.now c.args.before.now.lines _ _ c.counted-jobs.result c.args.planning.now _ _ _
    c.counted-jobs.ensures c.in_ok-agenda.ensures.planned c.in_ok-lines.ensures
    (ap (λ (listing : Listing). listing.lines) c.agenda-earlier.ensures) c.in_ok-table.ensures.table

pub returns-clause-finds : goal.returns-clause-finds
returns-clause-finds g c =
    let changed = rw (c.in_ok-lines.ensures, c.agenda-earlier.ensures) at c.in_ok-changes.ensures in
    rw (← c.counted-jobs.ensures, c.in_ok-table.ensures.finds, c.deref.ensures.value)
    (found _ c.counted-jobs.result c.args.planning.now c.in_ok-agenda.agenda _ c.in_ok-agenda.ensures.planned changed)
