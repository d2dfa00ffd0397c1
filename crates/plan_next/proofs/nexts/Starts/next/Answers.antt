use Rattle.std.proofs.Common.{◌≤◌, length, arith}
use Rattle.plan_next.specs.Next.{most_kept}
use Rattle.plan_next.proofs.nexts.Starts.next.Goals as goal

pub next_of_each-self-inside-requires-clause-kept : goal.next_of_each-self-inside-requires-clause-kept
next_of_each-self-inside-requires-clause-kept c =
    let few : length c.in-Events.events ≤ most_kept = omega arith in
    (rw c.in-Events.is at c.self.invariant.nexts) few
