use Rattle.plan_collect.proofs.WindowsLemmas.{nominal_agenda}
use Rattle.plan_collect.proofs.windows.without_delays_windows_are_the_agenda.Goals as goal

pub returns : goal.returns
returns c = nominal_agenda
