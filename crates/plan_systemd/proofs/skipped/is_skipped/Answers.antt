-- The numbers from the limit up to the value of the next round, as the definition counts them.
use Rattle.std.proofs.Common.{◌≡◌, ◌+◌, ◌-◌, not, ap, ◌∙◌, arith}
use Rattle.std.specs.List.{list_any, range_with_len}
use Rattle.plan_systemd.specs.Skipped.{is_reached}
use Rattle.plan_systemd.proofs.skipped.is_skipped.Goals as goal

pub returns : goal.returns
returns c =
    let first : c.from-first.result + 1 ≡ c.args.hi + 1 = omega arith in
    let count : c.from-first.result + 1 + c.saturating_sub-places.result - (c.from-first.result + 1) ≡ c.args.v + 1 - c.args.lo =
    omega arith in
    ap not c.is_any_reached.ensures ∙ (λ i. not (list_any (is_reached c.args.count c.args.items.now) (range_with_len (first i) (count i))))
