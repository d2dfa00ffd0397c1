use Rattle.std.proofs.Common.{arith, ◌∙◌}
use Rattle.agenda_table.proofs.TimeLemmas.{moment_boundary}
use Rattle.agenda_table.proofs.time.push_date.Goals as goal

pub range-requires-clause-end_boundary : goal.range-requires-clause-end_boundary
range-requires-clause-end_boundary c =
    moment_boundary c.as_str.result.now c.args.second 10 c.requires.years (c.as_str.ensures.value ∙ c.requires.moment) (omega arith)
