use Rattle.std.proofs.Common.{refl}
use Rattle.agenda_commands.proofs.ChangesLemmas.{ascending, found}
use Rattle.agenda_commands.proofs.RemarkLemmas.{planned-in_order}
use Rattle.agenda_commands.proofs.goal.make_changes.Goals as goal

pub changes-requires : goal.changes-requires
changes-requires g c =
    ascending _ _ (planned-in_order c.counted-jobs.result c.args.planning.now c.in_ok-agenda.agenda c.in_ok-agenda.ensures.planned)

pub returns-clause-made : goal.returns-clause-made
returns-clause-made g c =
    rw (← c.counted-jobs.ensures, c.in_ok-agenda.ensures.planned) (
      _,
      rw (c.in_ok-lines.ensures, c.agenda-2.ensures) at c.in_ok-changes.ensures,
      rw (c.in_ok-lines.ensures, c.in_ok-before.ensures) refl,
    )

pub returns-clause-finds : goal.returns-clause-finds
returns-clause-finds g c =
    let changed = rw (c.in_ok-lines.ensures, c.agenda-2.ensures) at c.in_ok-changes.ensures in
    rw (← c.counted-jobs.ensures)
    (found _ c.counted-jobs.result c.args.planning.now c.in_ok-agenda.agenda _ c.in_ok-agenda.ensures.planned changed)
