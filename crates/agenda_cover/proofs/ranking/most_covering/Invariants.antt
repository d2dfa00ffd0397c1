use Rattle.std.proofs.Common.{◌≡◌, drop, take}
use Rattle.agenda_cover.specs.Counting.{seconds_counted}
use Rattle.agenda_cover.specs.Ranking.{most_covering, ranked_after}
use Rattle.agenda_cover.proofs.RankingLemmas.{left}
use Rattle.agenda_cover.proofs.ranking.most_covering.Given as goal

-- those that cover most so far, and the jobs that are left, are ranked as all jobs are; they are at most three
abbrev pub invariant-loop-number : goal.invariant-loop-number
invariant-loop-number l = record {
  ranked : take 3 (ranked_after l.most.items (left l.number (drop l.number l.covers))) ≡ most_covering (seconds_counted l.covers);
  few : take 3 l.most.items ≡ l.most.items;
}
