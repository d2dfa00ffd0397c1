-- No bit of the words is 1.
use Rattle.std.proofs.Common.{ap, refl, ◌∙◌}
use Rattle.plan_sets.specs.Values.{no_values}
use Rattle.plan_sets.specs.Words.{is_marked, word_count}
use Rattle.plan_sets.proofs.ValuesLemmas.{base-values_at, values_at-none}
use Rattle.plan_sets.proofs.WordsLemmas.{is_marked-zeros, zeros}
use Rattle.plan_sets.proofs.value_set.ValueSet.empty.Goals as goal

pub returns : goal.returns
returns c =
    let none = is_marked (zeros word_count) in
    values_at-none c.args.lo none _ refl (λ k _. is_marked-zeros word_count k) ∙ ap no_values (base-values_at c.args.lo none _ refl)
