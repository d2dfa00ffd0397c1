use Rattle.std.proofs.Common.{rules}
use Rattle.std.proofs.lemmas.List.Elements.{filter_from_retain}
use Rattle.plan_units.specs.DropIns.{is_drop_in}
use Rattle.plan_units.proofs.drop_in_files.drop_ins_among.Goals as goal

pub returns : goal.returns
returns c = filter_from_retain _ is_drop_in (λ p x b q called. search rules) _ _ _ c.retain.ensures.filtered
