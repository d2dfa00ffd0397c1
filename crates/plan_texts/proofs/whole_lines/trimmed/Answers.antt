use Rattle.std.proofs.lemmas.List.Sums.{suffix_len-le-length}
use Rattle.plan_texts.proofs.WholeLinesLemmas.{boundary_before_blanks}
use Rattle.plan_texts.proofs.whole_lines.trimmed.Goals as goal
use Rattle.std.proofs.Common.{arith}
use Rattle.std.proofs.lemmas.Bool.Decides.{nat_tests}
use Rattle.std.proofs.lemmas.Grind.{common_steps}

pub overflow_sub-text : goal.overflow_sub-text
overflow_sub-text c = grind (arith, nat_tests, common_steps, suffix_len-le-length)

pub range-requires-clause-end_boundary : goal.range-requires-clause-end_boundary
range-requires-clause-end_boundary c =
    rw (c.blanks_at_end.ensures, c.as_bytes.ensures.value) (boundary_before_blanks c.after_blanks-text.result.now c.after_blanks-text.utf8)
