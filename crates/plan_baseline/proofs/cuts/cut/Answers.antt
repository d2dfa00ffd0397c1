use Rattle.std.proofs.Common.{◌+◌, Some, ap, sym, take, ◌∙◌}
use Rattle.std.proofs.lemmas.List.{take_rest}
use Rattle.plan_baseline.proofs.CutLemmas.{cut_at_place, cut_nowhere}
use Rattle.plan_baseline.proofs.cuts.cut.Goals as goal

pub returns-in_default : goal.returns-in_default
returns-in_default c = sym (cut_nowhere c.args.mark c.args.text.now c.in_default.ensures)

pub returns : goal.returns
returns c =
    let text = c.args.text.now in
    let place = c.in-Some.place in
    let found = c.in-Some.ensures in
    ap (λ rest. Some (take place text, rest)) (take_rest text (place + 1))
    ∙ sym (cut_at_place c.args.mark text place found.0.high found.0.before found.1)
