use Rattle.plan_texts.proofs.LinesLemmas.{boundary_after_blanks}
use Rattle.plan_texts.proofs.lines.after_blanks.Goals as goal

pub range_from-requires : goal.range_from-requires
range_from-requires c = λ some. rw (c.blanks_in_front.ensures, c.as_bytes.ensures.value) (boundary_after_blanks c.args.text.now c.utf8.text)
