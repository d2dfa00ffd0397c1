use Rattle.std.proofs.Common.{lit<}
use Rattle.plan_texts.proofs.CutLemmas.{boundary_after_last}
use Rattle.plan_units.proofs.names.type_of.Goals as goal

pub range_from-requires : goal.range_from-requires
range_from-requires c = λ some.
    rw (c.saturating_sub.ensures, c.type_len.ensures, c.as_bytes.ensures.value)
    (boundary_after_last 46 c.args.name.now (lit< tt) c.utf8.name)
