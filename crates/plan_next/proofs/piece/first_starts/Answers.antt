-- Answers the clauses `end`, `all` and `first` of `first_starts`.
-- The loop's invariant: all starts before `reached` were found, and the next one is known. The loop ends when the piece
-- is full and a start remains (`full_piece`), or when no start remains (`whole_part`).
use Rattle.std.proofs.Common.{◌≡◌, ◌≤◌, ◌<◌, length, arith}
use Rattle.plan_next.specs.Starts.{is_start}
use Rattle.plan_next.proofs.NextsLemmas.{IsLeastIn-next, NoneIn-next}
use Rattle.plan_next.proofs.PieceLemmas.{IsWhole, found_none, found_more, whole_part, full_piece}
use Rattle.plan_next.proofs.piece.first_starts.Goals as goal
use Rattle.plan_next.proofs.piece.first_starts.Goals.{Then-len-most, After-loop-starts}

pub loop-starts-init : goal.loop-starts-init
loop-starts-init c = record {
  found = found_none c.args.rule.now c.args.since c.args.upto c.args.most c.new-found.result.items c.new-found.ensures.items
      c.requires.part;
  next = c.first-starts.ensures.first;
  rule = c.first-starts.ensures.rule;
  upto = c.first-starts.ensures.end;
}

pub loop-starts-preserved : goal.loop-starts-preserved
loop-starts-preserved c =
    let so_far = c.loop-starts.invariant in
    let added = c.in_ok-add_rest_of_hour.ensures in
    let start : c.start-in-loop-starts.result ≡ c.loop-starts.starts.since = c.start-in-loop-starts.ensures.start in
    let before : c.loop-starts.starts.since < c.args.upto = omega arith in
    let room : length c.loop-starts.found.items < c.args.most = omega arith in
    let least = IsLeastIn-next (is_start c.args.rule.now) c.loop-starts.reached c.args.upto c.loop-starts.starts.since so_far.next before in
    record {
      found = rw c.start-reached.ensures.start ((rw (so_far.rule, so_far.upto) at added.found) c.args.since
          (found_more c.args.rule.now c.args.since c.args.upto c.args.most c.loop-starts.starts.since c.loop-starts.reached
          c.loop-starts.found.items c.push.new.self.items so_far.found least room (rw start at c.in_ok-push.ensures.items)));
      next = rw c.start-reached.ensures.start (rw (added.rule, added.end, so_far.rule, so_far.upto) at c.next.ensures.next);
      rule = rw (c.next.ensures.rule, added.rule) so_far.rule;
      upto = rw (c.next.ensures.end, added.end) so_far.upto;
    }

full : (c : Then-len-most) → IsWhole c.args.rule.now c.args.since c.args.upto c.args.most c.loop-starts.found.items c.loop-starts.reached
full c =
    let so_far = c.loop-starts.invariant in
    let before : c.loop-starts.starts.since < c.args.upto = omega arith in
    let many : length c.loop-starts.found.items ≡ c.args.most = omega arith in
    let least = IsLeastIn-next (is_start c.args.rule.now) c.loop-starts.reached c.args.upto c.loop-starts.starts.since so_far.next before in
    full_piece c.args.rule.now c.args.since c.args.upto c.args.most c.loop-starts.reached c.loop-starts.starts.since
    c.loop-starts.found.items so_far.found many c.requires.room least

pub returns-then-len-most-clause-end : goal.returns-then-len-most-clause-end
returns-then-len-most-clause-end c = (full (goal.at.returns-then-len-most-clause-end c).Then-len-most).end_is

pub returns-then-len-most-clause-first : goal.returns-then-len-most-clause-first
returns-then-len-most-clause-first c = (full (goal.at.returns-then-len-most-clause-first c).Then-len-most).first

whole : (c : After-loop-starts) → IsWhole c.args.rule.now c.args.since c.args.upto c.args.most c.loop-starts.found.items c.args.upto
whole c =
    let so_far = c.loop-starts.invariant in
    let past : c.args.upto ≤ c.loop-starts.starts.since = omega arith in
    let none = NoneIn-next (is_start c.args.rule.now) c.loop-starts.reached c.args.upto c.loop-starts.starts.since so_far.next past in
    whole_part c.args.rule.now c.args.since c.args.upto c.args.most c.loop-starts.reached c.loop-starts.found.items so_far.found none

pub returns-clause-end : goal.returns-clause-end
returns-clause-end c = (whole (goal.at.returns-clause-end c).After-loop-starts).end_is

pub returns-clause-all : goal.returns-clause-all
returns-clause-all c = (whole (goal.at.returns-clause-all c).After-loop-starts).all

pub returns-clause-first : goal.returns-clause-first
returns-clause-first c = (whole (goal.at.returns-clause-first c).After-loop-starts).first
