use Rattle.std.proofs.Common.{ap, ◌∙◌}
use Rattle.std.specs.List.{list_any}
use Rattle.std.specs.Str.{bytes_eq}
use Rattle.plan_rules.proofs.NamesLemmas.{named_by_key}
use Rattle.plan_rules.proofs.names.Names.contains.Goals as goal

pub returns : goal.returns
returns c =
    c.contains.ensures ∙ named_by_key c.args.name.now c.self.inside.kept.keys
    ∙ ap (list_any (bytes_eq c.args.name.now)) c.self.view_is
