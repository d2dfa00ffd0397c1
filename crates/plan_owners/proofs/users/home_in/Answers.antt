use Rattle.std.proofs.Common.{◌∙◌, false, true}
use Rattle.plan_texts.proofs.Utf8Lemmas.{no_utf8, yes_utf8}
use Rattle.plan_owners.proofs.UserLemmas.{home_is}
use Rattle.plan_owners.proofs.users.home_in.Goals as goal

pub returns-in-Ok : goal.returns-in-Ok
returns-in-Ok c =
    c.in-Ok.ensures.cases.0 ∙ home_is true _ c.args.fields.now c.in-len2-up.len_at_least (yes_utf8 _ c.in-Ok.ensures.cases.1)

pub returns-in-Err : goal.returns-in-Err
returns-in-Err c = home_is false _ c.args.fields.now c.in-len2-up.len_at_least (no_utf8 _ c.in-Err.ensures.cases.0)
