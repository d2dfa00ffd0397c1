-- The text of a result is the one that was put.
use Rattle.std.proofs.Common.{sym}
use Rattle.agenda_commands.proofs.goal.Made.write.Goals as goal

pub returns-in-Plan-clause-text : goal.returns-in-Plan-clause-text
returns-in-Plan-clause-text g c = rw c.in-Plan.is c.write_agenda.ensures.text

pub returns-in-Upcoming-clause-text : goal.returns-in-Upcoming-clause-text
returns-in-Upcoming-clause-text g c = rw c.in-Upcoming.is c.write_upcoming.ensures.text

pub returns-in-Quiet-clause-text : goal.returns-in-Quiet-clause-text
returns-in-Quiet-clause-text g c = rw c.in-Quiet.is (rw (sym c.from.ensures) c.write_quiet.ensures.text)

pub returns-in-Changes-clause-text : goal.returns-in-Changes-clause-text
returns-in-Changes-clause-text g c =
    rw c.in-Changes.is (rw (c.agenda.ensures, c.deref-in-Changes.ensures.value) at c.write_changes.ensures.text)
