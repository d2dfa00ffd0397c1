-- No key has the bytes of the name, so the set appends the new key (`insert_key-name`).
use Rattle.std.proofs.Common.{◌≡◌, false, [], ◌∷◌, ◌++◌, map, string_bytes, ap, sym, rules, ◌∙◌}
use Rattle.std.specs.List.{list_any}
use Rattle.std.specs.Str.{bytes_eq}
use Rattle.plan_rules.proofs.NamesLemmas.{insert_key-name, with_name-new}
use Rattle.plan_rules.proofs.names.Names.add.Goals as goal

pub returns-clause-added : goal.returns-clause-added
returns-clause-added c =
    let keys = c.self.inside.kept.keys in
    let name = c.args.name.now in
    let new : list_any (bytes_eq name) c.args.self.now ≡ false = search rules in
    let absent : list_any (bytes_eq name) (map string_bytes keys) ≡ false =
    ap (list_any (bytes_eq name)) c.self.view_is ∙ new in
    ap (map string_bytes) c.in_ok-insert.ensures.keys
    ∙ insert_key-name keys c.in_ok-name.name name c.in_ok-name.ensures.ok absent
    ∙ ap (λ names. names ++ name ∷ []) c.self.view_is
    ∙ sym (with_name-new c.args.self.now name new)
