use Rattle.std.proofs.Common.{Ok, refl}
use Rattle.agenda_commands.specs.Goal.{AnswersGoal}
use Rattle.agenda_commands.proofs.PrepareLemmas.{failed, first_at_once, passed_at_once, rejected}
use Rattle.agenda_commands.proofs.prepare.prepare_answer.Goals as goal

pub returns-in_err-check-clause-answer : goal.returns-in_err-check-clause-answer
returns-in_err-check-clause-answer g c =
    rw (← c.in_err-check.ensures)
    (rejected (λ all. all.answer) (AnswersGoal c.args.format c.args.goal.now) _ _ _ (λ found. refl) (λ other. refl) c.from_residual.ensures.1)

pub returns-in_err-jobs-clause-answer : goal.returns-in_err-jobs-clause-answer
returns-in_err-jobs-clause-answer g c =
    rw (← c.in_ok-check.ensures) (rejected (λ all. all.answer) (AnswersGoal c.args.format c.args.goal.now) _ _ _ (λ found. refl) c.in_err-jobs.ensures.jobs
    c.from_residual-in_err-jobs.ensures.1)

pub returns-in_err-jobs-clause-at_once : goal.returns-in_err-jobs-clause-at_once
returns-in_err-jobs-clause-at_once g c valid none =
    first_at_once _ _ _ _ refl (c.in_err-jobs.ensures.at_once none) c.from_residual-in_err-jobs.ensures.1

pub returns-in_err-made-clause-answer : goal.returns-in_err-made-clause-answer
returns-in_err-made-clause-answer g c =
    rw (← c.in_ok-check.ensures, c.in_ok-jobs.ensures.jobs) (failed (λ all. all.answer) (AnswersGoal c.args.format c.args.goal.now (Ok c.in_ok-jobs.jobs)) _ _
    c.in_err-made.ensures.made c.from_residual-in_err-made.ensures.1)

pub returns-in_err-made-clause-no_source : goal.returns-in_err-made-clause-no_source
returns-in_err-made-clause-no_source g c has =
    rw (← c.in_ok-check.ensures) (passed_at_once _ _ _ _ refl c.in_err-made.ensures.at_once c.from_residual-in_err-made.ensures.1)

pub returns-clause-answer : goal.returns-clause-answer
returns-clause-answer g c = rw (← c.in_ok-check.ensures, c.in_ok-jobs.ensures.jobs) c.in_ok-made.ensures.made
