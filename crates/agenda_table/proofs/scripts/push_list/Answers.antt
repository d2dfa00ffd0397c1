use Rattle.std.proofs.Common.{ap, ◌∙◌, ◌++◌, ◌∷◌, [], append_assoc, codes, string_bytes}
use Rattle.std.specs.List.{flat_map}
use Rattle.agenda_sources.specs.Name.{file_name}
use Rattle.agenda_table.specs.Scripts.{more_name}
use Rattle.agenda_table.proofs.scripts.push_list.Goals as goal

pub returns : goal.returns
returns c =
    let before = string_bytes c.args.text.now in
    let first = codes "  [" ++ file_name c.as_str.result.now in
    let more = flat_map more_name c.args.more.now in
    rw (← c.as_str.ensures)
    (c.in_ok-push_str.ensures.bytes ∙ ap (λ text. text ++ 93 ∷ []) (c.in_ok-push_more.ensures ∙ ap (λ text. text ++ more) c.in_ok-push_name.ensures)
    ∙ append_assoc (before ++ first) more (93 ∷ []) ∙ append_assoc before first (more ++ 93 ∷ []))
