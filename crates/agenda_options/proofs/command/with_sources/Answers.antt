-- Each turn adds the argument for the next kind of source.
use Rattle.std.proofs.Common.{◌≡◌, ◌<◌, ◌+◌, ◌∷◌, ◌∙◌, ℕ, List, ap, drop, map, refl, slice_index_or}
use Rattle.std.proofs.lemmas.List.{drop_more}
use Rattle.clap.specs.Words.{App, Rule, app_of, rule_of, with_rule}
use Rattle.plan_rules.specs.SourceKind.{kinds}
use Rattle.plan_rules.specs.declared.SourceKind.{SourceKind}
use Rattle.agenda_options.specs.Command.{source_rule, with_each}
use Rattle.agenda_options.proofs.command.with_sources.Goals as goal

one_more :
    (app next : App) (rule : Rule) (items : List SourceKind) (index : ℕ) (other : SourceKind) → index < 5 → items ≡ kinds →
    next ≡ with_rule app rule → rule ≡ source_rule (slice_index_or items index other) →
    with_each next (map source_rule (drop (index + 1) kinds)) ≡ with_each app (map source_rule (drop index kinds))
one_more app next rule items index other within all is of_kind =
    let kind = slice_index_or kinds index other in
    let left : drop index kinds ≡ kind ∷ drop (index + 1) kinds = drop_more kinds index other within in
    let same : rule ≡ source_rule kind = of_kind ∙ ap (λ (l : List SourceKind). source_rule (slice_index_or l index other)) all in
    rw (is, same, left) refl

pub loop-kind-preserved : goal.loop-kind-preserved
loop-kind-preserved c = record {
  left = one_more (app_of c.loop-kind.command) (app_of c.in_ok-command.command) (rule_of c.source_argument.result) c.all-kind-items.result
      c.loop-kind.kind-index _ c.loop-kind-test.true c.all-kind-items.ensures c.in_ok-command.ensures.app c.source_argument.ensures.rule
      ∙ c.loop-kind.invariant.left;
  local = c.in_ok-command.ensures.local;
}
