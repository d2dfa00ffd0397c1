use Rattle.std.proofs.Common.{Bor, List, map, take, ℕ, sym, ap, ◌∙◌}
use Rattle.std.proofs.lemmas.List.{take-map}
use Rattle.agenda_policy.specs.Comments.{is_comment_or_blank}
use Rattle.agenda_policy.proofs.CommentLemmas.{prefix_len-map}
use Rattle.agenda_policy.proofs.comments.head_of.Goals as goal

pub returns : goal.returns
returns c =
    let now : Bor (List ℕ) → List ℕ = λ line. line.now in
    sym (take-map now c.head_len.result c.args.lines.now)
    ∙ ap (λ n. take n (map now c.args.lines.now))
    (c.head_len.ensures.count ∙ prefix_len-map (is_comment_or_blank c.args.kind) now c.args.lines.now)
