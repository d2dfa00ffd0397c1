use Rattle.agenda_sources.proofs.SlashLemmas.{name_cut, name_uncut}
use Rattle.agenda_sources.proofs.name.file_name.Goals as goal

pub returns-in-Some : goal.returns-in-Some
returns-in-Some c =
    let h = c.in-Some.ensures.cases in
    name_cut c.args.path.now c.in-Some.name.now h.0 h.1 h.2 h.4 h.7

pub returns-in-None : goal.returns-in-None
returns-in-None c = name_uncut c.args.path.now c.in-None.ensures.cases
