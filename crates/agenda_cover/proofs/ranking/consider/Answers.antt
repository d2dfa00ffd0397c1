-- The job is put after those that come before it, and three of the list are kept.
use Rattle.std.proofs.Common.{◌≡◌, ◌∙◌, ℕ, Bool, ap, arith, length, not, nat_lt, true, refl, take, vec_len}
use Rattle.std.proofs.lemmas.List.Sums.{prefix_len-le-length}
use Rattle.std.proofs.lemmas.Bool.Decides.{nat_tests}
use Rattle.std.specs.List.{prefix_len}
use Rattle.agenda_cover.specs.Ranking.{covers_some}
use Rattle.agenda_cover.proofs.RankingLemmas.{inserted_at}
use Rattle.agenda_cover.proofs.ranking.consider.Goals as goal

pub insert-requires : goal.insert-requires
insert-requires c =
    let test : ℕ × ℕ → Bool = λ other. not (nat_lt other.1 c.args.job.1) in
    let items : c.deref.result.now ≡ c.args.most.now.items = c.deref.ensures.value in
    let place : c.count_before-place.result ≡ prefix_len test c.args.most.now.items =
    c.count_before-place.ensures ∙ ap (prefix_len test) items in
    let len : length c.deref.result.now ≡ vec_len c.args.most.now = c.deref.ensures.len in
    let same : length c.deref.result.now ≡ length c.args.most.now.items = ap length items in
    omega (arith, len, same, place, prefix_len-le-length test c.args.most.now.items)

pub returns : goal.returns
returns c =
    let test : ℕ × ℕ → Bool = λ other. not (nat_lt other.1 c.args.job.1) in
    let some : covers_some c.args.job ≡ true = grind (arith, nat_tests) in
    let items : c.deref.result.now ≡ c.args.most.now.items = c.deref.ensures.value in
    let place : c.count_before-place.result ≡ prefix_len test c.args.most.now.items =
    c.count_before-place.ensures ∙ ap (prefix_len test) items in
    c.truncate.ensures.items ∙ ap (take 3) (c.in_ok-insert.ensures.items ∙ inserted_at c.args.job c.args.most.now.items _ place)
    ∙ rw some refl
