use Rattle.std.proofs.Common.{◌≡◌, ◌∙◌, ◌++◌, ℕ, List, ap, append_assoc, codes}
use Rattle.agenda_cover.specs.Lengths.{length_text}
use Rattle.agenda_cover.specs.Remark.{jobs_text}
use Rattle.agenda_cover.proofs.remark.line_text.Goals as goal

regroup : (a b c d e f : List ℕ) → ((((a ++ b) ++ c) ++ d) ++ e) ++ f ≡ a ++ (b ++ (c ++ (d ++ (e ++ f))))
regroup a b c d e f = simp append_assoc

pub returns : goal.returns
returns c =
    let least = length_text c.args.least in
    let longest = length_text c.args.longest in
    let jobs = jobs_text c.args.jobs.now c.args.most.now in
    let first = codes "agenda: no gap of " in
    let middle = codes ": the longest is " in
    let end = codes "\n" in
    let one = c.in_ok-push_length.ensures ∙ ap (λ text. text ++ least) c.in_ok-line.ensures.ok in
    let two = c.in_ok-push_str.ensures.bytes ∙ ap (λ text. text ++ middle) one in
    let three = c.in_ok-push_length-2.ensures ∙ ap (λ text. text ++ longest) two in
    let four = c.in_ok-push_jobs.ensures ∙ ap (λ text. text ++ jobs) three in
    c.new.ensures ∙ c.in_ok-push_str-2.ensures.bytes ∙ ap (λ text. text ++ end) four ∙ regroup first least middle longest jobs end
