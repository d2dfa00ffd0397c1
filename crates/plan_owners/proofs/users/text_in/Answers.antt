-- What follows the white space of a field is its text.
use Rattle.std.proofs.Common.{◌∙◌, ap, drop, Some}
use Rattle.std.proofs.lemmas.Str.Ascii.{trim_ascii_start_is}
use Rattle.std.specs.Char.{is_ascii_whitespace}
use Rattle.std.specs.List.{prefix_len}
use Rattle.plan_texts.proofs.Utf8Lemmas.{yes_utf8}
use Rattle.plan_owners.proofs.users.text_in.Goals as goal

pub returns-in-Ok : goal.returns-in-Ok
returns-in-Ok c =
    let trimmed = trim_ascii_start_is c.in-Ok.text.now c.trim_ascii_start.result.now c.trim_ascii_start.ensures.value in
    rw (yes_utf8 c.args.field.now c.in-Ok.ensures.cases.1)
    (ap Some (trimmed ∙ ap (λ text. drop (prefix_len is_ascii_whitespace text) text) c.in-Ok.ensures.cases.0))
