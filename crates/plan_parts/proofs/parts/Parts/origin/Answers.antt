-- The law of origins holds of the text of a unit.
use Rattle.plan_parts.proofs.PartsLemmas.{unit_added, unit_same}
use Rattle.plan_parts.proofs.parts.Parts.origin.Goals as goal

pub returns-in-OfUnit-clause-same : goal.returns-in-OfUnit-clause-same
returns-in-OfUnit-clause-same c =
    rw (c.in-OfUnit.is, c.origin_of.ensures.value, c.files.ensures) (unit_same c.in-OfUnit.parts c.args.line)

pub returns-in-OfUnit-clause-added : goal.returns-in-OfUnit-clause-added
returns-in-OfUnit-clause-added c =
    rw (c.in-OfUnit.is, c.origin_of.ensures.value, c.files.ensures) (unit_added c.in-OfUnit.parts c.args.line)
