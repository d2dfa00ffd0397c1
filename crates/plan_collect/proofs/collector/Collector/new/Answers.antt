-- A new collector holds nothing.
use Rattle.std.proofs.Common.{rules, sym, ap, ◌∙◌}
use Rattle.std.proofs.lemmas.Bool.{and_from, le-leb}
use Rattle.plan_collect.specs.Collecting.{firsts_of}
use Rattle.plan_collect.proofs.HoldsLemmas.{Holds-begun}
use Rattle.plan_collect.proofs.collector.Collector.new.Goals as goal

pub invariant_of-result : goal.invariant_of-result
invariant_of-result c =
    Holds-begun c.in_ok-timings.timings.items c.args.span c.args.limit c.args.planners c.in_ok-firsts_in.field-0.items
    c.in_ok-from_elem.field-0.items c.new.result.items
    (c.in_ok-firsts_in.ensures ∙ ap (firsts_of c.args.span) c.deref.ensures.value)
    (c.in_ok-from_elem.ensures.items_if_clones_equal (λ y same. same))
    (and_from _ _ (le-leb _ _ c.if-planners-lt1.false) (le-leb _ _ c.if-planners-gt-MOST_PLANNERS.false))
    (sym c.is_limit.ensures ∙ c.if-not-is_limit.false)
    (search rules)
    c.in_ok-timings.ensures.few
    c.new.ensures.items
