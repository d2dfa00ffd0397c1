use Rattle.std.proofs.Common.{sym}
use Rattle.agenda_changes.proofs.KeyLemmas.{in_years}
use Rattle.agenda_changes.proofs.firsts.Firsts.get.Goals as goal

pub returns-clause-years : goal.returns-clause-years
returns-clause-years c =
    in_years c.self.inside.seconds.entries c.args.row c.in_ok-runs.runs.now c.in_ok-runs.second.now c.self.invariant
    (sym c.in_ok-runs.ensures.entry)
