use Rattle.std.proofs.Common.{None, Some, ap, if◌then◌else◌, sym, ◌∙◌}
use Rattle.plan_baseline.specs.Reading.{utf8_line}
use Rattle.plan_baseline.proofs.LineLemmas.{utf8_is}
use Rattle.plan_baseline.proofs.lines.first_line.Goals as goal

pub returns-then-not-is_utf8 : goal.returns-then-not-is_utf8
returns-then-not-is_utf8 c =
    let test = utf8_is c.in-Some.line.now c.is_utf8.result c.is_utf8.ensures in
    ap (λ is. if is then Some (c.in-Some.line.now, c.in-Some.rest.now) else None) (sym c.if-not-is_utf8.true ∙ test)
    ∙ ap utf8_line c.in-Some.ensures

pub returns : goal.returns
returns c =
    let test = utf8_is c.in-Some.line.now c.is_utf8.result c.is_utf8.ensures in
    ap (λ is. if is then Some (c.in-Some.line.now, c.in-Some.rest.now) else None) (sym c.if-not-is_utf8.false ∙ test)
    ∙ ap utf8_line c.in-Some.ensures
