use Rattle.std.proofs.Common.{◌≡◌, map, Ok}
use Rattle.plan_texts.specs.Steps.{each}
use Rattle.plan_grammar.specs.Event.{component_item}
use Rattle.plan_grammar.proofs.component.Component.items.Given as goal

abbrev pub invariant-loop-element : goal.invariant-loop-element
invariant-loop-element l =
    (goal.iterator-loop-element).can_next l.element-iterator
    × (goal.iterator-loop-element).is_finite l.element-iterator
    × (each (component_item l.self) (map (λ element. element.now) l.yielded) ≡ Ok l.items.items)
