use Rattle.std.proofs.Common.{subst}
use Rattle.std.proofs.lemmas.Slice.Eq.{bytes_eq-Decides}
use Rattle.plan_changes.specs.Keys.{AreEachOnce}
use Rattle.plan_changes.proofs.TextLemmas.{distinct_once}
use Rattle.plan_changes.proofs.keys.RunTexts.len.Goals as goal

pub returns-clause-once : goal.returns-clause-once
returns-clause-once c =
    subst AreEachOnce c.self.view_is
    (distinct_once _ (λ text. text.now) (λ one other same. (bytes_eq-Decides one.now other.now).1 same) c.self.inside.texts.keys c.len.ensures.unique)
