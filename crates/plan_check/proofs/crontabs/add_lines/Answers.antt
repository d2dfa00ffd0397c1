use Rattle.std.proofs.Common.{◌++◌, append-nil, ap, sym, ◌∙◌}
use Rattle.plan_check.specs.Crontabs.{lines_findings, after_lines}
use Rattle.plan_check.proofs.LinesLemmas.{found_more, known_more, none_left}
use Rattle.plan_check.proofs.crontabs.add_lines.Goals as goal

pub loop-place-preserved : goal.loop-place-preserved
loop-place-preserved c = record {
  found = found_more c.loop-place.known c.add_line.new.known c.args.label.now c.args.kind c.args.beyond (λ line. line.now)
      c.args.lines.now c.loop-place.place _ c.is_first.result c.loop-place.found.items c.add_line.new.found.items _
      c.loop-place-test.true c.is_first.ensures c.in_ok-add_line.ensures.found c.in_ok-add_line.ensures.known
      c.loop-place.invariant.found;
  known = known_more _ _ c.args.label.now c.args.kind (λ line. line.now) c.args.lines.now c.loop-place.place _ _ c.loop-place-test.true
      c.in_ok-add_line.ensures.known c.loop-place.invariant.known;
}

pub returns-clause-found : goal.returns-clause-found
returns-clause-found c =
    let none = none_left (λ line. line.now) c.args.lines.now c.loop-place.place c.loop-place-test.false in
    sym (append-nil c.loop-place.found.items)
    ∙ ap (λ left. c.loop-place.found.items ++ lines_findings c.loop-place.known c.args.label.now c.args.kind c.args.beyond left) (sym none)
    ∙ c.loop-place.invariant.found

pub returns-clause-known : goal.returns-clause-known
returns-clause-known c =
    let none = none_left (λ line. line.now) c.args.lines.now c.loop-place.place c.loop-place-test.false in
    ap (after_lines c.loop-place.known c.args.label.now c.args.kind) (sym none) ∙ c.loop-place.invariant.known
