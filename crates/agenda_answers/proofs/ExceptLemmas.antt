-- An answer without idle jobs is for the jobs that are left without each of them: for `answers_except_idle_jobs`.
use Rattle.std.proofs.Common.{◌≡◌, ◌↔◌, List, Result, subst, sym}
use Rattle.plan_rules.specs.Job.{JobParts}
use Rattle.agenda_machine.proofs.IdleLaws.{idle_jobs_are_excepted}
use Rattle.agenda_answers.specs.ExceptLaws.{AnswersExceptIdleJobs}
use Rattle.agenda_answers.specs.Machine.{shows_kept}

pub answers_except : AnswersExceptIdleJobs
answers_except dir jobs host goal machine unplanned clock zones end added =
    let same = idle_jobs_are_excepted host.tree.held machine zones added in
    let P : List JobParts → Type 0 = λ planned. shows_kept dir jobs host goal machine unplanned clock zones planned end in
    (subst P same, subst P (sym same))
