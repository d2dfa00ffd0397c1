use Rattle.agenda_commands.proofs.RemarkLemmas.{answers_gaps, planned-in_order}
use Rattle.agenda_commands.proofs.remark.make_quiet.Goals as goal

pub remarked-requires : goal.remarked-requires
remarked-requires g c = planned-in_order c.counted-jobs.result c.args.planning.now c.in_ok-agenda.agenda c.in_ok-agenda.ensures.planned

pub returns-clause-answer : goal.returns-clause-answer
returns-clause-answer g c =
    answers_gaps _ _ _ _ _ _ _ c.counted-jobs.ensures c.in_ok-agenda.ensures.planned c.in_ok-remarked.ensures.answer

pub returns-clause-remark : goal.returns-clause-remark
returns-clause-remark g c = rw (← c.counted-jobs.ensures, c.in_ok-agenda.ensures.planned) c.in_ok-remarked.ensures.remark
