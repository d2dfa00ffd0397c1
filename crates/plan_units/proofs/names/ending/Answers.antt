-- A name is cut before its last `.`.
use Rattle.std.proofs.Common.{lit<}
use Rattle.plan_texts.proofs.CutLemmas.{boundary_before_last}
use Rattle.plan_units.proofs.names.ending.Goals as goal

pub range_from-requires : goal.range_from-requires
range_from-requires c = λ some.
    rw (c.type_start.ensures, c.as_bytes.ensures.value) (boundary_before_last 46 c.args.name.now (lit< tt) c.utf8.name)
