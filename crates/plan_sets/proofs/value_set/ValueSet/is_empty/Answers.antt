-- The set is empty if its words are 0.
use Rattle.std.proofs.Common.{ap, refl, sym, ◌∙◌}
use Rattle.plan_sets.specs.Values.{Values}
use Rattle.plan_sets.specs.Words.{is_marked, word_count}
use Rattle.plan_sets.proofs.ValuesLemmas.{none-values_at, values_at-none}
use Rattle.plan_sets.proofs.WordsLemmas.{zeros, is_marked-zeros, AreWords-zeros, Decides-words}
use Rattle.plan_sets.proofs.value_set.ValueSet.is_empty.Goals as goal

pub returns : goal.returns
returns c =
    let fields = c.self.inside in
    let s = c.args.self.now in
    let marked = is_marked fields.words in
    let d = Decides-words fields.words (zeros word_count) c.self.told refl c.self.invariant.1 (AreWords-zeros word_count) in (
      λ none. ap (λ (t : Values). t.members)
          (values_at-none fields.base marked s c.self.view_is
          (λ k room. (d.0 (sym c.eq.ensures ∙ none)).each k room ∙ is_marked-zeros word_count k)),
      λ empty. c.eq.ensures ∙ d.1 (record
          { each = λ k room. none-values_at fields.base marked s c.self.view_is empty k room ∙ sym (is_marked-zeros word_count k) }),
    )
