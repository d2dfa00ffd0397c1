use Rattle.std.proofs.Common.{◌≡◌, min, None, Some, ap, ◌∙◌, arith}
use Rattle.plan_clock.specs.Rows.{natural, shown}
use Rattle.plan_sets.specs.Limits.{end_second}
use Rattle.plan_next.proofs.StretchLemmas.{found_in_stretch}
use Rattle.plan_next.proofs.search.Pattern.first_in_stretch.Goals as goal

pub returns-then-low-high : goal.returns-then-low-high
returns-then-low-high c =
    let high : c.min-high.result ≡ min (natural (shown c.args.stretch.row c.args.stretch.upto)) end_second = c.min-high.ensures
    ∙ ap (λ n. min n end_second) c.shown.ensures in
    found_in_stretch c.args.self c.args.stretch.row c.args.from c.args.stretch.upto c.first_counted-low.result c.min-high.result None
    c.requires.begun c.requires.part c.first_counted-low.ensures high (λ n low high. absurd (omega arith))

pub returns-in_default : goal.returns-in_default
returns-in_default c =
    let high : c.min-high.result ≡ min (natural (shown c.args.stretch.row c.args.stretch.upto)) end_second = c.min-high.ensures
    ∙ ap (λ n. min n end_second) c.shown.ensures in
    found_in_stretch c.args.self c.args.stretch.row c.args.from c.args.stretch.upto c.first_counted-low.result c.min-high.result None
    c.requires.begun c.requires.part c.first_counted-low.ensures high c.in_default.ensures

pub returns : goal.returns
returns c =
    let high : c.min-high.result ≡ min (natural (shown c.args.stretch.row c.args.stretch.upto)) end_second = c.min-high.ensures
    ∙ ap (λ n. min n end_second) c.shown.ensures in
    rw (c.max.ensures, c.unshown.ensures)
    (found_in_stretch c.args.self c.args.stretch.row c.args.from c.args.stretch.upto c.first_counted-low.result c.min-high.result
    (Some c.in-Some.shown) c.requires.begun c.requires.part c.first_counted-low.ensures high c.in-Some.ensures)
