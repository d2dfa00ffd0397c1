use Rattle.agenda_answers.proofs.requests.request_of.Goals as goal

pub returns-in-Next : goal.returns-in-Next
returns-in-Next c = rw c.in-Next.is c.starts_request.ensures

pub returns-in-Plan : goal.returns-in-Plan
returns-in-Plan c = rw c.in-Plan.is c.plan_request.ensures

pub returns-in-Upcoming : goal.returns-in-Upcoming
returns-in-Upcoming c = rw c.in-Upcoming.is c.upcoming_request.ensures

pub returns-in-Quiet : goal.returns-in-Quiet
returns-in-Quiet c = rw c.in-Quiet.is c.quiet_request.ensures
