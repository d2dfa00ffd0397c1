-- At the last return each error is of a line: for the clauses about errors.
use Rattle.std.proofs.Common.{◌≡◌, ◌≢◌}
use Rattle.std.proofs.lemmas.Result.{IfErr-weaker}
use Rattle.plan_rules.specs.declared.line_fault.LineCause.TheVariants.{BadTabName, NoMemory}
use Rattle.plan_rules.specs.LineFaults.{IsOwnCause}
use Rattle.plan_rules.proofs.CrontabFaults.{IsOwnFault, jobs, no_name, own_cause}
use Rattle.plan_rules.proofs.FileFaults.{too_large, not_utf8}
use Rattle.plan_rules.proofs.crontabs.crontab.Goals as goal

pub returns-clause-too_large : goal.returns-clause-too_large
returns-clause-too_large c =
    too_large c.jobs_of_lines.result c.args.bytes.now c.in_ok-text.text.now c.in_ok-text.ensures.value
    (jobs (λ jobs. jobs.items) c.jobs_of_lines.result _ _ _ c.jobs_of_lines.ensures)

pub returns-clause-not_utf8 : goal.returns-clause-not_utf8
returns-clause-not_utf8 c =
    not_utf8 c.jobs_of_lines.result c.args.bytes.now c.in_ok-text.text.now c.in_ok-text.ensures.value
    (jobs (λ jobs. jobs.items) c.jobs_of_lines.result _ _ _ c.jobs_of_lines.ensures)

pub returns-clause-memory : goal.returns-clause-memory
returns-clause-memory c =
    IfErr-weaker c.jobs_of_lines.result IsOwnFault (λ fault. fault.cause ≡ NoMemory → fault.line ≡ 0) (λ fault own. own.0)
    (jobs (λ jobs. jobs.items) c.jobs_of_lines.result _ _ _ c.jobs_of_lines.ensures)

pub returns-clause-own_cause : goal.returns-clause-own_cause
returns-clause-own_cause c =
    IfErr-weaker c.jobs_of_lines.result IsOwnFault (λ fault. IsOwnCause fault.cause) (λ fault own. own_cause fault.cause own.1)
    (jobs (λ jobs. jobs.items) c.jobs_of_lines.result _ _ _ c.jobs_of_lines.ensures)

pub returns-clause-no_name : goal.returns-clause-no_name
returns-clause-no_name c =
    IfErr-weaker c.jobs_of_lines.result IsOwnFault (λ fault. fault.cause ≢ BadTabName) (λ fault own. no_name fault.cause own.1)
    (jobs (λ jobs. jobs.items) c.jobs_of_lines.result _ _ _ c.jobs_of_lines.ensures)
