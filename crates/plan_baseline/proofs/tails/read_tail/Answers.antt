use Rattle.std.proofs.Common.{refl, sym, ◌∙◌}
use Rattle.plan_baseline.proofs.CutLemmas.{cut_again}
use Rattle.plan_baseline.proofs.LineLemmas.{utf8_is}
use Rattle.plan_baseline.proofs.TailLemmas.{no_newline, no_tab, no_utf8, rest_is, tail_is}
use Rattle.plan_baseline.proofs.tails.read_tail.Goals as goal

pub returns-in_default-clause-none : goal.returns-in_default-clause-none
returns-in_default-clause-none c = no_newline c.args.rest.now (sym c.in_default.ensures)

pub returns-in_default-cut-clause-none : goal.returns-in_default-cut-clause-none
returns-in_default-cut-clause-none c =
    no_tab c.args.rest.now c.in-Some.line.now c.in-Some.after.now (sym c.in-Some.ensures) (sym c.in_default-cut.ensures)

pub returns-then-not-is_utf8-clause-none : goal.returns-then-not-is_utf8-clause-none
returns-then-not-is_utf8-clause-none c =
    no_utf8 c.args.rest.now c.in-Some.line.now c.in-Some.after.now (sym c.in-Some.ensures)
    (sym (utf8_is c.in-Some.line.now c.is_utf8.result c.is_utf8.ensures) ∙ c.if-not-is_utf8.true)

pub returns-clause-tail : goal.returns-clause-tail
returns-clause-tail c =
    let is = rest_is c.args.rest.now c.in-Some.line.now c.in-Some-cut.name.now c.in-Some-cut.field-0-1.now c.in-Some.after.now
    (sym c.in-Some.ensures) (sym c.in-Some-cut.ensures) (c.is_utf8.ensures.0 c.if-not-is_utf8.false) in
    (tail_is c.args.text.now c.args.rest.now c.in-Some.line.now c.in-Some-cut.name.now c.in-Some-cut.field-0-1.now c.in-Some.after.now _
    c.requires (cut_again 10 c.args.rest.now c.in-Some.line.now c.in-Some.after.now (sym c.in-Some.ensures)) is refl refl refl).0

pub returns-clause-some : goal.returns-clause-some
returns-clause-some c =
    let is = rest_is c.args.rest.now c.in-Some.line.now c.in-Some-cut.name.now c.in-Some-cut.field-0-1.now c.in-Some.after.now
    (sym c.in-Some.ensures) (sym c.in-Some-cut.ensures) (c.is_utf8.ensures.0 c.if-not-is_utf8.false) in
    (tail_is c.args.text.now c.args.rest.now c.in-Some.line.now c.in-Some-cut.name.now c.in-Some-cut.field-0-1.now c.in-Some.after.now _
    c.requires (cut_again 10 c.args.rest.now c.in-Some.line.now c.in-Some.after.now (sym c.in-Some.ensures)) is refl refl refl).1
