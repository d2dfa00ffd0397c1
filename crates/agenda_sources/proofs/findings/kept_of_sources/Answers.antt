-- Without a clock the findings are the errors, and the same jobs are kept.
use Rattle.std.proofs.Common.{◌≡◌, Some, Ok, ap, sym, ◌∙◌}
use Rattle.plan_check.specs.Known.{KnownJobs, no_jobs, without_warnings}
use Rattle.agenda_sources.specs.Findings.{after_sources}
use Rattle.agenda_sources.specs.Sources.{zoned}
use Rattle.agenda_sources.proofs.FindingLemmas.{errors_from, known_from}
use Rattle.agenda_sources.proofs.findings.kept_of_sources.Goals as goal

pub returns-clause-errors : goal.returns-clause-errors
returns-clause-errors c =
    let zones = c.args.zones.now in
    c.in_ok-errors.ensures.found
    ∙ errors_from zones.timers c.errors_need_no_clock.ensures.found c.errors_need_no_clock.ensures.known 0 (no_jobs (Some zones.clock))
    c.args.sources.now

pub returns-clause-jobs : goal.returns-clause-jobs
returns-clause-jobs c =
    let zones = c.args.zones.now in
    let after : c.in_ok-errors.known ≡ without_warnings (after_sources zones.timers (no_jobs (Some zones.clock)) c.args.sources.now) =
    c.in_ok-errors.ensures.known
    ∙ known_from zones.timers c.errors_need_no_clock.ensures.known (no_jobs (Some zones.clock)) c.args.sources.now in
    c.in_ok-jobs.ensures.zone
    ∙ ap (zoned zones.clock) (c.into_jobs.ensures ∙ ap (λ (known : KnownJobs). known.jobs) after)

pub returns-clause-same : goal.returns-clause-same
returns-clause-same c = λ none.
    c.without_errors_all_is_kept.ensures c.args.zones.now c.args.sources.now (sym (returns-clause-errors c) ∙ none)
    ∙ ap Ok (sym (returns-clause-jobs c))
