use Rattle.std.proofs.Common.{ap, ◌∙◌}
use Rattle.agenda_changes.specs.Counts.{row_of}
use Rattle.agenda_changes.proofs.KeyLemmas.{row_is}
use Rattle.agenda_changes.proofs.firsts.Firsts.row.Goals as goal

pub returns : goal.returns
returns c =
    c.get_index_of.ensures.index ∙ row_is (λ key. key.items) c.args.runs.now c.self.inside.seconds.entries
    ∙ ap (row_of c.args.runs.now) c.self.view_is
