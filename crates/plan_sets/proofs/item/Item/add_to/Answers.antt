use Rattle.std.proofs.Common.{◌||◌, ◌&&◌, ap, ◌∙◌, sym}
use Rattle.plan_sets.specs.declared.item.Item.{Item}
use Rattle.plan_sets.specs.Values.{Values, has_value}
use Rattle.plan_sets.specs.Items.{belongs, is_within}
use Rattle.plan_sets.specs.ValuesLaws.{has_value-with_value}
use Rattle.plan_sets.proofs.ItemsLemmas.{one_added}
use Rattle.plan_sets.proofs.item.Item.add_to.Goals as goal

pub returns-in-One-clause-added : goal.returns-in-One-clause-added
returns-in-One-clause-added c = λ v.
    let a = c.args in
    let old = has_value a.values.now v in
    let faultless = rw c.in-One.is at c.requires.faultless in
    ap (λ (s : Values). has_value s v) c.insert.ensures ∙ has_value-with_value a.values.now c.in-One.value v
    ∙ one_added a.lo a.hi c.in-One.value v old faultless
    ∙ ap (λ (i : Item). old || (is_within a.lo a.hi v && belongs i v)) (sym c.in-One.is)
