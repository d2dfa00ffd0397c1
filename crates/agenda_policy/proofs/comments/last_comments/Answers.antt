use Rattle.std.proofs.Common.{Bor, List, map, take, drop, length, ◌-◌, ◌≡◌, ℕ, refl, sym, ap, ◌∙◌}
use Rattle.std.proofs.lemmas.List.{drop-map, length-map}
use Rattle.std.specs.List.{suffix_len}
use Rattle.agenda_policy.specs.Comments.{is_comment}
use Rattle.agenda_policy.proofs.CommentLemmas.{suffix_len-map, take_all_after}
use Rattle.agenda_policy.proofs.comments.last_comments.Goals as goal

pub returns : goal.returns
returns c =
    let now : Bor (List ℕ) → List ℕ = λ line. line.now in
    let lines = c.args.lines.now in
    let n = length lines - c.comments_at_end.result in
    let whole : take (length lines - n) (drop n lines) ≡ drop n lines = take_all_after n lines in
    let len : length (map now lines) ≡ length lines = length-map lines now in
    let count : c.comments_at_end.result ≡ suffix_len (is_comment c.args.kind) (map now lines) =
    c.comments_at_end.ensures.count ∙ suffix_len-map (is_comment c.args.kind) now lines in
    ap (map now) whole ∙ sym (drop-map now n lines) ∙ rw (len, ← count) refl
