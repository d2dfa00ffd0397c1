use Rattle.std.proofs.Common.{ap, ◌∙◌, ◌++◌, ◌∷◌, [], append_assoc, codes}
use Rattle.std.specs.List.{flat_map}
use Rattle.plan_write.specs.Json.{json_string}
use Rattle.plan_write.specs.Texts.{more_string}
use Rattle.plan_write.proofs.line_ends.push_array.Goals as goal

pub returns : goal.returns
returns c =
    let first = codes ",\"scripts\":[" ++ json_string c.as_str.result.now in
    let more = flat_map more_string c.args.more.now in
    rw (← c.as_str.ensures)
    (c.in_ok-push.ensures.items ∙ ap (λ text. text ++ 93 ∷ []) (c.in_ok-push_more.ensures ∙ ap (λ text. text ++ more) c.in_ok-push_member.ensures)
    ∙ append_assoc (c.args.text.now.items ++ first) more (93 ∷ []) ∙ append_assoc c.args.text.now.items first (more ++ 93 ∷ []))
