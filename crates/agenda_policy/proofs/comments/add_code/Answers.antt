use Rattle.std.proofs.Common.{◌∙◌, sym, ap}
use Rattle.agenda_policy.specs.Policy.{has_code}
use Rattle.agenda_policy.proofs.CommentLemmas.{known_code}
use Rattle.agenda_policy.proofs.comments.add_code.Goals as goal

pub returns-else-not-has_code : goal.returns-else-not-has_code
returns-else-not-has_code c =
    known_code c.args.codes.now.items c.args.code
    (ap (λ all. has_code all c.args.code) (sym c.as_slice.ensures.value) ∙ sym c.has_code.ensures ∙ c.if-not-has_code.false)
