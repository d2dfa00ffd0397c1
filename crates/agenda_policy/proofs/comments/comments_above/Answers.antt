use Rattle.std.proofs.Common.{Bor, List, map, take, ◌-◌, ◌≡◌, ℕ, sym, ap, ◌∙◌}
use Rattle.std.proofs.lemmas.List.{take-map}
use Rattle.agenda_policy.specs.Comments.{last_comments}
use Rattle.agenda_policy.proofs.CommentLemmas.{take_within}
use Rattle.agenda_policy.proofs.comments.comments_above.Goals as goal

pub returns : goal.returns
returns c =
    let now : Bor (List ℕ) → List ℕ = λ line. line.now in
    let lines = c.args.lines.now in
    let cut : take c.min.result lines ≡ take (c.args.number - 1) lines =
    rw (c.min.ensures, c.saturating_sub-before.ensures) (take_within (c.args.number - 1) lines) in
    c.last_comments.ensures ∙ ap (λ l. last_comments c.args.kind (map now l)) cut
    ∙ ap (last_comments c.args.kind) (sym (take-map now (c.args.number - 1) lines))
