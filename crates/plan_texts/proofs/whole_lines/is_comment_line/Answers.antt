use Rattle.std.proofs.Common.{arith}
use Rattle.std.proofs.lemmas.Bool.Decides.{nat_tests}
use Rattle.std.proofs.lemmas.Grind.{common_steps}
use Rattle.std.proofs.lemmas.List.Sums.{prefix_len-le-length}
use Rattle.plan_texts.proofs.whole_lines.is_comment_line.Goals as goal

pub slice_bounds-matches-count : goal.slice_bounds-matches-count
slice_bounds-matches-count c = grind (arith, nat_tests, common_steps, prefix_len-le-length)

pub slice_bounds-matches-start : goal.slice_bounds-matches-start
slice_bounds-matches-start c = grind (arith, nat_tests, common_steps, prefix_len-le-length)
