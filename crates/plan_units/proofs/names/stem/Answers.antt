-- A name is cut before its last `.`.
use Rattle.std.proofs.Common.{lit<}
use Rattle.plan_texts.proofs.CutLemmas.{boundary_before_last}
use Rattle.plan_units.proofs.names.stem.Goals as goal

pub range-requires-clause-end_boundary : goal.range-requires-clause-end_boundary
range-requires-clause-end_boundary c =
    rw (c.type_start.ensures, c.as_bytes.ensures.value) (boundary_before_last 46 c.args.name.now (lit< tt) c.utf8.name)
