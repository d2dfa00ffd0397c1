use Rattle.std.proofs.Common.{◌≡◌, ◌∙◌, ◌+◌, ℕ, List, ap, drop, sym, take}
use Rattle.std.proofs.lemmas.List.{drop_all}
use Rattle.agenda_cover.specs.Ranking.{most_covering, ranked_after, with_job}
use Rattle.agenda_cover.proofs.RankingLemmas.{few_kept, left, ranked_more}
use Rattle.agenda_cover.proofs.ranking.most_covering.Goals as goal

pub loop-number-init : goal.loop-number-init
unfolding most_covering
loop-number-init c = record {
  ranked = ap (λ (most : List (ℕ × ℕ)). take 3 (ranked_after most (left 0 c.args.covers.now))) c.new-most.ensures.items;
  few = ap (λ (most : List (ℕ × ℕ)). take 3 most) c.new-most.ensures.items ∙ sym c.new-most.ensures.items;
}

pub loop-number-preserved : goal.loop-number-preserved
loop-number-preserved c =
    let covers = c.args.covers.now in
    let i = c.loop-number.number in
    let one : ℕ × ℕ = c.index-covers-number.result in
    let most = c.loop-number.most.items in
    let new : c.consider.new.most.items ≡ with_job (i, one.1) most =
    c.in_ok-consider.ensures ∙ ap (λ n. with_job (i, n) most) c.seconds.ensures in
    record {
      ranked = ap (λ (ms : List (ℕ × ℕ)). take 3 (ranked_after ms (left (i + 1) (drop (i + 1) covers)))) new
          ∙ ranked_more covers i one most c.loop-number-test.true c.index-covers-number.is ∙ c.loop-number.invariant.ranked;
      few = ap (λ (ms : List (ℕ × ℕ)). take 3 ms) new ∙ few_kept (i, one.1) most c.loop-number.invariant.few ∙ sym new;
    }

pub returns : goal.returns
returns c =
    let covers = c.args.covers.now in
    let most = c.loop-number.most.items in
    let none = drop_all c.loop-number.number covers c.loop-number-test.false in
    sym c.loop-number.invariant.few
    ∙ ap (λ (rest : List (ℕ × ℕ)). take 3 (ranked_after most (left c.loop-number.number rest))) (sym none)
    ∙ c.loop-number.invariant.ranked
