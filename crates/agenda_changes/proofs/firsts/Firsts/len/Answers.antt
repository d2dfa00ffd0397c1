use Rattle.std.proofs.Common.{ℕ, List, map, subst}
use Rattle.std.specs.List.{IsDistinct}
use Rattle.std.specs.Str.{bytes_eq}
use Rattle.agenda_changes.proofs.KeyLemmas.{are_distinct}
use Rattle.agenda_changes.proofs.firsts.Firsts.len.Goals as goal

pub returns-clause-distinct : goal.returns-clause-distinct
returns-clause-distinct c =
    subst (λ (fs : List (List ℕ × ℕ)). IsDistinct bytes_eq (map (λ first. first.0) fs)) c.self.view_is
    (are_distinct (λ key. key.items) c.self.inside.seconds.entries c.len.ensures.unique)
