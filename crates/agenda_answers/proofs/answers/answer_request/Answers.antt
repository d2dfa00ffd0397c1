use Rattle.agenda_answers.proofs.StepLemmas.{ran}
use Rattle.agenda_answers.proofs.answers.answer_request.Goals as goal

pub returns-in-Starts-clause-answers : goal.returns-in-Starts-clause-answers
returns-in-Starts-clause-answers g c = rw c.in-Starts.is (_, c.next.ensures.ends, c.end.ensures.exits)

pub returns-in-Jobs-clause-answers : goal.returns-in-Jobs-clause-answers
returns-in-Jobs-clause-answers g c = rw c.in-Jobs.is c.answer_jobs.ensures.answers

pub returns-in-Changes-clause-answers : goal.returns-in-Changes-clause-answers
returns-in-Changes-clause-answers g c = rw c.in-Changes.is c.answer_changes.ensures.answers

pub returns-in-Check-clause-answers : goal.returns-in-Check-clause-answers
returns-in-Check-clause-answers g c =
    rw c.in-Check.is (_, c.check-done.ensures.ends, rw c.as_slice.ensures at c.end-in-Check.ensures.exits)

pub returns-in-Describe-clause-answers : goal.returns-in-Describe-clause-answers
returns-in-Describe-clause-answers g c = rw c.in-Describe.is (_, c.describe.ensures.ends, c.end-in-Describe.ensures.exits)

pub returns-in-DescribeJobs-clause-answers : goal.returns-in-DescribeJobs-clause-answers
returns-in-DescribeJobs-clause-answers g c = rw c.in-DescribeJobs.is c.answer_descriptions.ensures.answers

pub returns-in-MachineDescribe-clause-answers : goal.returns-in-MachineDescribe-clause-answers
returns-in-MachineDescribe-clause-answers g c = rw c.in-MachineDescribe.is c.answer_machine_describe.ensures.answers

pub returns-in-Steps-clause-answers : goal.returns-in-Steps-clause-answers
returns-in-Steps-clause-answers g c = rw c.in-Steps.is (_, c.steps.ensures.ends, c.end-in-Steps.ensures.exits)

pub returns-in-Explain-clause-answers : goal.returns-in-Explain-clause-answers
returns-in-Explain-clause-answers g c =
    rw c.in-Explain.is (
      c.status_after.result,
      rw c.status_after.ensures (ran _ _ _ _ _ c.run_explain.ensures.output),
      c.end-in-Explain.ensures.exits,
    )
