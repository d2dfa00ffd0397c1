use Rattle.std.proofs.Common.{◌≡◌, ℕ, ◌+◌, ◌-◌, ◌<◌, ◌≤◌, List, min, sym, ap, subst, ◌∙◌, arith}
use Rattle.plan_clock.specs.declared.row.Change.{Change}
use Rattle.plan_clock.specs.Rows.{row_at}
use Rattle.plan_sets.specs.Limits.{end_second}
use Rattle.plan_next.specs.Search.{clock_of}
use Rattle.plan_next.proofs.StretchLemmas.{plain_part}
use Rattle.plan_next.proofs.search.Pattern.part_by_clock.Goals as goal

pub returns : goal.returns
returns c =
    let row = c.stretch_near-stretch.result.row in
    let until = c.stretch_near-stretch.result.upto in
    let begun = c.stretch_near-stretch.ensures.begun in
    let after : row.second < c.args.start = omega (arith, c.if-stretch-start.false) in
    let same : ((n : ℕ) → c.args.start ≤ n → n < until → row_at (clock_of c.args.self) n ≡ row) = λ n from to.
    ap (λ (changes : List Change). row_at changes n) (sym c.clock.ensures) ∙ c.stretch_near-stretch.ensures.same n from to
    ∙ sym c.stretch_near-stretch.ensures.row in
    let upto : c.min.result ≡ min until (c.args.start + (end_second - c.shown-shown.result)) = omega arith in
    let next : (until < c.args.end → (row_at (clock_of c.args.self) until).second ≡ until) =
    subst (λ (changes : List Change). until < c.args.end → (row_at changes until).second ≡ until) c.clock.ensures
    c.stretch_near-stretch.ensures.whole in
    plain_part c.args.self row c.args.start c.shown-shown.result until c.min.result c.args.end after c.stretch_near-stretch.ensures.from
    c.stretch_near-stretch.ensures.to same next c.requires.start c.shown-shown.ensures upto
