use Rattle.std.proofs.Common.{Some, ap, ◌∙◌}
use Rattle.plan_check.specs.Known.{no_jobs}
use Rattle.agenda_sources.specs.Findings.{found_from}
use Rattle.agenda_sources.proofs.FindingLemmas.{clean_sources}
use Rattle.agenda_sources.proofs.findings.findings_of_sources.Goals as goal

pub returns-clause-clean : goal.returns-clause-clean
returns-clause-clean c =
    clean_sources c.a_file_means_its_reading.ensures c.errors_need_no_clock.ensures.found c.errors_need_no_clock.ensures.known
    c.args.zones.now c.args.sources.now c.in_ok-found.found.items
    (c.in_ok-found.ensures.found
    ∙ ap (λ clock. found_from c.args.zones.now.timers 0 (no_jobs (Some clock)) c.args.sources.now) c.in_ok-clock.ensures)
