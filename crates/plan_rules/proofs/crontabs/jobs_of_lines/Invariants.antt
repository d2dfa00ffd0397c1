use Rattle.std.proofs.Common.{◌≡◌, []}
use Rattle.plan_rules.specs.Crontab.{line_entry}
use Rattle.plan_rules.proofs.CrontabLemmas.{rest_reading}
use Rattle.plan_rules.proofs.crontabs.jobs_of_lines.Given as goal

abbrev pub invariant-loop-place : goal.invariant-loop-place
invariant-loop-place l =
    rest_reading (line_entry l.label l.kind) (λ line. line.now) l.jobs.items l.lines l.place
    ≡ rest_reading (line_entry l.label l.kind) (λ line. line.now) [] l.lines 0
