-- The present start is passed or answers the question.
use Rattle.std.proofs.Common.{◌≡◌, ◌+◌, ◌<◌, ◌≤◌, true, sym, ◌∙◌, arith}
use Rattle.plan_sets.specs.Limits.{end_second}
use Rattle.plan_next.specs.Close.{has_close_starts}
use Rattle.plan_next.specs.Next.{IsFirstOrEnd}
use Rattle.plan_next.specs.Starts.{is_start}
use Rattle.plan_next.proofs.CloseLemmas.{has_close_starts-end, has_close_starts-found, has_close_starts-later, has_close_starts-passed, none_near}
use Rattle.plan_next.proofs.close.has_close_starts.Goals as goal
use Rattle.plan_next.proofs.close.has_close_starts.Goals.{After-start-next}

pub loop-starts-init : goal.loop-starts-init
loop-starts-init c = record {
  rule = c.first-starts.ensures.rule;
  upto = c.first-starts.ensures.end;
  is = c.first-starts.ensures.first.is;
  left = has_close_starts-later c.args.rule.now c.args.since c.first-starts.result.since c.args.until c.args.apart
      c.first-starts.ensures.first.from c.first-starts.ensures.first.none;
}

-- the search goes on far enough to find every start near the present one
past : (c : After-start-next) → c.min-end.result < end_second → c.loop-starts.starts.since + c.args.apart ≤ c.min-end.result
past c lt = omega arith

-- the start after the present one
next_of :
    (c : After-start-next) →
    IsFirstOrEnd (is_start c.args.rule.now) (c.loop-starts.starts.since + 1) c.min-end.result c.next.new.self.since
next_of c =
    let so_far = c.loop-starts.invariant in
    rw (so_far.rule, so_far.upto) at c.next.ensures.next

-- the present start
present : (c : After-start-next) → (c.loop-starts.starts.since < c.args.until) × (is_start c.args.rule.now c.loop-starts.starts.since ≡ true)
present c = (omega arith, c.loop-starts.invariant.is (omega arith))

-- it is passed if none is near
passed :
    (c : After-start-next) → (c.next.new.self.since < c.min-end.result → c.loop-starts.starts.since + c.args.apart ≤ c.next.new.self.since) →
    has_close_starts c.args.rule.now c.args.since c.args.until c.args.apart
    ≡ has_close_starts c.args.rule.now c.next.new.self.since c.args.until c.args.apart
passed c far =
    let here = present c in
    c.loop-starts.invariant.left
    ∙ has_close_starts-passed c.args.rule.now c.loop-starts.starts.since c.args.until c.args.apart c.min-end.result
    c.next.new.self.since here.0 here.1 (next_of c)
    (none_near c.args.rule.now c.loop-starts.starts.since c.args.apart c.min-end.result c.next.new.self.since (next_of c) far (past c))

pub returns-then-next-end : goal.returns-then-next-end
returns-then-next-end c =
    let at = (goal.at.returns-then-next-end c).After-start-next in
    sym (passed at (λ lt. absurd (omega arith)) ∙ has_close_starts-end c.args.rule.now c.next.new.self.since c.args.until c.args.apart (omega arith))

pub returns-then-next-start : goal.returns-then-next-start
returns-then-next-start c =
    let at = (goal.at.returns-then-next-start c).After-start-next in
    let here = present at in
    let next = next_of at in
    sym
    (c.loop-starts.invariant.left
    ∙ has_close_starts-found c.args.rule.now c.loop-starts.starts.since c.args.until c.args.apart c.min-end.result
    c.next.new.self.since here.0 here.1 next (omega arith) (omega arith))

pub loop-starts-preserved : goal.loop-starts-preserved
loop-starts-preserved c =
    let at = (goal.at.loop-starts-preserved c).After-start-next in
    let so_far = c.loop-starts.invariant in
    record {
      rule = c.next.ensures.rule ∙ so_far.rule;
      upto = c.next.ensures.end ∙ so_far.upto;
      is = (next_of at).is;
      left = passed at (λ lt. omega arith);
    }

pub returns : goal.returns
returns c =
    sym
    (c.loop-starts.invariant.left
    ∙ has_close_starts-end c.args.rule.now c.loop-starts.starts.since c.args.until c.args.apart (omega arith))
