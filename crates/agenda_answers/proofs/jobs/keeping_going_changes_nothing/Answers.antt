use Rattle.agenda_answers.proofs.KeepingLaws.{changes_nothing, times_rejected}
use Rattle.agenda_answers.proofs.jobs.keeping_going_changes_nothing.Goals as goal

pub returns-clause-jobs : goal.returns-clause-jobs
returns-clause-jobs c = changes_nothing c.without_errors_all_is_kept.ensures

pub returns-clause-times : goal.returns-clause-times
returns-clause-times c = times_rejected
