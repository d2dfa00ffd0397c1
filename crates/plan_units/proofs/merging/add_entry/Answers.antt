use Rattle.std.proofs.Common.{◌≤◌, length, arith}
use Rattle.std.proofs.lemmas.List.Sums.{prefix_len-le-length}
use Rattle.plan_units.proofs.merging.add_entry.Goals as goal

pub insert-requires : goal.insert-requires
insert-requires c =
    let fits : c.count_before-place.result ≤ length c.as_slice-2.result.now =
    rw c.count_before-place.ensures (prefix_len-le-length _ c.as_slice-2.result.now) in
    omega (arith, c.as_slice-2.ensures.len)
