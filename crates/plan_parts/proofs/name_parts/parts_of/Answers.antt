-- A name is cut before and after its first `@`, and before its last `.`.
use Rattle.std.proofs.Common.{◌≡◌, ◌<◌, ◌==◌, not, length, ap, ◌∙◌, lit<, arith}
use Rattle.std.specs.List.{prefix_len}
use Rattle.plan_texts.proofs.CutLemmas.{boundary_after_first, boundary_before_first, boundary_before_last}
use Rattle.plan_parts.proofs.name_parts.parts_of.Goals as goal

pub range-requires-clause-end_boundary : goal.range-requires-clause-end_boundary
range-requires-clause-end_boundary c =
    let is : c.at_len-at.result ≡ prefix_len (λ b. not (b == 64)) c.args.name.now =
    c.at_len-at.ensures ∙ ap (prefix_len (λ b. not (b == 64))) c.as_bytes.ensures.value in
    let inside : c.at_len-at.result < length c.args.name.now =
    omega (arith, c.type_start-end.ensures, ap length c.as_bytes-2.ensures.value) in
    rw is (boundary_before_first 64 c.args.name.now (lit< tt) (rw is at inside))

pub range-requires-2-clause-start_boundary : goal.range-requires-2-clause-start_boundary
range-requires-2-clause-start_boundary c = λ some.
    let is : c.at_len-at.result ≡ prefix_len (λ b. not (b == 64)) c.args.name.now =
    c.at_len-at.ensures ∙ ap (prefix_len (λ b. not (b == 64))) c.as_bytes.ensures.value in
    let inside : c.at_len-at.result < length c.args.name.now =
    omega (arith, c.type_start-end.ensures, ap length c.as_bytes-2.ensures.value) in
    rw is (boundary_after_first 64 c.args.name.now (lit< tt) c.utf8.name (rw is at inside))

pub range-requires-2-clause-end_boundary : goal.range-requires-2-clause-end_boundary
range-requires-2-clause-end_boundary c =
    rw (c.type_start-end.ensures, c.as_bytes-2.ensures.value)
    (boundary_before_last 46 c.args.name.now (lit< tt) c.utf8.name)

pub range_from-requires : goal.range_from-requires
range_from-requires c = λ some.
    rw (c.type_start-end.ensures, c.as_bytes-2.ensures.value)
    (boundary_before_last 46 c.args.name.now (lit< tt) c.utf8.name)
