use Rattle.std.proofs.Common.{◌≡◌, ◌∙◌, ap}
use Rattle.agenda_cover.specs.Counting.{seconds_counted}
use Rattle.agenda_cover.specs.Cover.{covers}
use Rattle.agenda_cover.specs.Ranking.{most_covering}
use Rattle.agenda_cover.specs.Remark.{line_text}
use Rattle.agenda_cover.proofs.remark.no_gap_line.Goals as goal

pub returns : goal.returns
returns c =
    let made = c.args.agenda.now in
    let jobs = c.args.jobs.now in
    let counted : seconds_counted c.deref.result.now ≡ covers made jobs =
    ap seconds_counted c.deref.ensures.value ∙ c.in_ok-covers.ensures in
    let most : c.deref-2.result.now ≡ most_covering (covers made jobs) =
    c.deref-2.ensures.value ∙ c.in_ok-most.ensures ∙ ap most_covering counted in
    c.in_ok-line.ensures ∙ (λ k. line_text c.args.least (c.in_ok-longest.ensures k) jobs (most k))
