use Rattle.std.proofs.Common.{◌∷◌, ◌++◌, ap, sym, ◌∙◌}
use Rattle.std.proofs.lemmas.Slice.Eq.{bytes_eq-Decides}
use Rattle.plan_baseline.proofs.PlainLemmas.{begins_with_time}
use Rattle.plan_baseline.proofs.known.KnownTime.read_first.Goals as goal

pub returns-then-eq-clause-some : goal.returns-then-eq-clause-some
returns-then-eq-clause-some c =
    let same = (bytes_eq-Decides c.in-Some.time.now c.self.inside.text.now).0 (sym c.eq.ensures ∙ c.if-eq.true) in
    begins_with_time c.args.line.now c.self.inside.text.now c.in-Some.rest.now c.self.inside.second
    (c.in-Some.ensures ∙ ap (λ t. t ++ 9 ∷ c.in-Some.rest.now) same) c.self.invariant.0

pub returns-clause-some : goal.returns-clause-some
returns-clause-some c =
    begins_with_time c.args.line.now c.in-Some.time.now c.in-Some.rest.now _ c.in-Some.ensures c.in-Some-read_later.ensures
