use Rattle.agenda_sources.proofs.FindingLemmas.{all_kept}
use Rattle.agenda_sources.proofs.findings.without_errors_all_is_kept.Goals as goal

pub returns : goal.returns
returns c =
    all_kept c.a_file_means_its_reading.ensures c.errors_need_no_clock.ensures.found c.errors_need_no_clock.ensures.known
