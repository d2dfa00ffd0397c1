-- Sets with the same base are equal if their words are equal.
-- Answers `==` of sets: it decides whether two sets are equal. With the same base, the test of the words decides whether the bits
-- are the same (`Decides-words`), and so whether the sets are (`same_tests`). Sets with different bases differ.
use Rattle.std.proofs.Common.{◌≡◌, ◌+◌, Decides, ap, sym, ◌∙◌, ◌==◌}
use Rattle.std.proofs.lemmas.Bool.{false_from_ne_true, ne_eqb}
use Rattle.std.proofs.lemmas.Bool.Decides.{same_from_decides, Decides-at}
use Rattle.std.specs.Cmp.Lexicographic.{pointwise}
use Rattle.plan_sets.specs.Values.{Values, has_value}
use Rattle.plan_sets.specs.Words.{is_marked}
use Rattle.plan_sets.specs.ValuesLaws.{Decides-listing}
use Rattle.plan_sets.proofs.ValuesLemmas.{base-values_at, has_value-distance, same_tests}
use Rattle.plan_sets.proofs.WordsLemmas.{Decides-words}
use Rattle.plan_sets.proofs.value_set.ValueSetPartialEq.eq.Goals as goal

pub returns-then-self-other : goal.returns-then-self-other
returns-then-self-other c =
    let f = c.self.inside in
    let g = c.other.inside in
    let s = c.args.self.now in
    let t = c.args.other.now in
    let d = Decides-words f.words g.words c.self.told c.other.told c.self.invariant.1 c.other.invariant.1 in
    let same : Decides (pointwise ◌==◌ f.words g.words) (s ≡ t) = (
      λ yes. same_tests f.base g.base (is_marked f.words) (is_marked g.words) s t c.self.view_is c.other.view_is
          c.if-self-other.true (d.0 yes).each,
      λ equal. d.1 (record {
        each = λ k room. sym (has_value-distance f.base (is_marked f.words) s c.self.view_is k room)
            ∙ ap (λ (u : Values). has_value u (f.base + k)) equal ∙ ap (λ b. has_value t (b + k)) c.if-self-other.true
            ∙ has_value-distance g.base (is_marked g.words) t c.other.view_is k room;
      }),
    ) in
    same_from_decides {P = s ≡ t} _ _ (Decides-at _ _ c.eq.ensures same) (Decides-listing s t)

pub returns-else-self-other : goal.returns-else-self-other
returns-else-self-other c =
    let s = c.args.self.now in
    let t = c.args.other.now in
    ne_eqb _ _ c.if-self-other.false
    ∙ sym (false_from_ne_true _ (λ yes. c.if-self-other.false
    (sym (base-values_at c.self.inside.base (is_marked c.self.inside.words) s c.self.view_is) ∙ ap (λ (u : Values). u.base)
    ((Decides-listing s t).0 yes) ∙ base-values_at c.other.inside.base (is_marked c.other.inside.words) t c.other.view_is)))
