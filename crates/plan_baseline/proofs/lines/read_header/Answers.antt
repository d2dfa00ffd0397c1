use Rattle.std.proofs.Common.{sym}
use Rattle.plan_baseline.proofs.LineLemmas.{after_line, header_read}
use Rattle.plan_baseline.proofs.lines.read_header.Goals as goal

pub overflow_sub-text : goal.overflow_sub-text
overflow_sub-text c = (after_line c.args.text.now c.in-Some.line.now c.in-Some.rest.now (sym c.in-Some.ensures)).0

pub returns-clause-read : goal.returns-clause-read
returns-clause-read c =
    header_read c.args.text.now c.in-Some.line.now c.in-Some.rest.now c.header_of.result (sym c.in-Some.ensures) c.header_of.ensures.some
    c.header_of.ensures.start c.header_of.ensures.none
