use Rattle.plan_check.proofs.ErrorLemmas.{file_errors, file_without}
use Rattle.plan_check.proofs.laws.errors_need_no_clock.Goals as goal

pub returns : goal.returns
returns c = record { found = file_errors; known = file_without }
