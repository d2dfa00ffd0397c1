use Rattle.std.proofs.Common.{not, ap}
use Rattle.plan_grammar.proofs.field.is_restricted.Goals as goal

pub returns : goal.returns
returns c = ap not c.begins_with.ensures
