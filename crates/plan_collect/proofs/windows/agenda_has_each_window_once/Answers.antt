use Rattle.plan_collect.proofs.EntriesLemmas.{each_once}
use Rattle.plan_collect.proofs.windows.agenda_has_each_window_once.Goals as goal

pub returns : goal.returns
returns c = each_once
