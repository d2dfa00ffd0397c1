use Rattle.std.proofs.Common.{◌∙◌, ap, sym, take}
use Rattle.std.proofs.lemmas.List.{take_more}
use Rattle.plan_sets.specs.declared.item.Item.TheVariants.{One}
use Rattle.plan_grammar.specs.Event.{first_place_fault}
use Rattle.plan_grammar.proofs.PlacesLemmas.{first_place_fault-push, first_place_fault-found}
use Rattle.plan_grammar.proofs.places.first_fault.Goals as goal

pub returns-in-Some : goal.returns-in-Some
returns-in-Some c =
    let items = c.args.items.now in
    let k = c.loop-item.item-index in
    sym (first_place_fault-found items k _ c.in-Some.fault (take_more items k _ c.loop-item-test.true) c.loop-item.invariant
    (sym c.fault_of.ensures ∙ c.in-Some.is))

pub loop-item-preserved : goal.loop-item-preserved
loop-item-preserved c =
    let items = c.args.items.now in
    let k = c.loop-item.item-index in
    ap first_place_fault (take_more items k (One 0) c.loop-item-test.true)
    ∙ first_place_fault-push (take k items) _ c.loop-item.invariant ∙ sym c.fault_of.ensures ∙ c.in_default.is
