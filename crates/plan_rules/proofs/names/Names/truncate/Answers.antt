use Rattle.std.proofs.Common.{map, string_bytes, take, ap, sym, ◌∙◌}
use Rattle.std.proofs.lemmas.List.{take-map}
use Rattle.plan_rules.proofs.names.Names.truncate.Goals as goal

pub returns : goal.returns
returns c =
    ap (map string_bytes) c.truncate.ensures.keys ∙ sym (take-map string_bytes c.args.len c.self.inside.kept.keys)
    ∙ ap (take c.args.len) c.self.view_is
