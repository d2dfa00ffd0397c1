use Rattle.std.proofs.Common.{ℕ, ◌+◌, ◌≤◌, ap, arith, sym, length}
use Rattle.std.specs.Prelude.{◌-◌}
use Rattle.std.proofs.lemmas.Bool.{le-leb, lt-leb}
use Rattle.agenda_table.specs.Layout.{columns_from}
use Rattle.agenda_table.specs.Widths.{width_at}
use Rattle.agenda_table.proofs.LineLemmas.{columns_end, columns_next}
use Rattle.agenda_table.proofs.line.fits.Goals as goal

pub returns-then-needed-left : goal.returns-then-needed-left
returns-then-needed-left c =
    let widths = width_at c.args.widths.now in
    let row = c.args.row.now in
    let (used, many, left) = c.loop-place.invariant in
    let next = columns_next widths c.saturating_sub-last.result c.loop-place.place row c.index-row-place.result
    c.loop-place-test.true c.index-row-place.is in
    let all = ap (λ (last : ℕ). columns_from widths last 0 row) c.saturating_sub-last.ensures in
    sym (lt-leb (columns_from widths (length row - 1) 0 row) c.args.columns
    (omega (arith, all, many, left, next, c.width.ensures, c.gap.ensures.value, c.if-needed-left.true)))

pub loop-place-preserved : goal.loop-place-preserved
loop-place-preserved c =
    let (used, many, left) = c.loop-place.invariant in
    let next = columns_next (width_at c.args.widths.now) c.saturating_sub-last.result c.loop-place.place c.args.row.now
    c.index-row-place.result c.loop-place-test.true c.index-row-place.is in (
      used + (c.width.result + c.gap.result),
      omega (arith, many, c.if-needed-left.false),
      omega (arith, left, next, c.width.ensures, c.gap.ensures.value),
    )

pub returns : goal.returns
returns c =
    let widths = width_at c.args.widths.now in
    let row = c.args.row.now in
    let (used, many, left) = c.loop-place.invariant in
    let end : length row ≤ c.loop-place.place = omega arith in
    let none = columns_end widths c.saturating_sub-last.result c.loop-place.place row end in
    let all = ap (λ (last : ℕ). columns_from widths last 0 row) c.saturating_sub-last.ensures in
    sym (le-leb (columns_from widths (length row - 1) 0 row) c.args.columns (omega (arith, all, many, left, none)))
