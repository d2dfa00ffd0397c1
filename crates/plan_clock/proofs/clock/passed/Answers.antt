use Rattle.std.proofs.Common.{rules, of_calls, nat_le, get_or, arith}
use Rattle.std.proofs.lemmas.Bool.{leb-true, leb-false}
use Rattle.std.proofs.lemmas.List.Sorted.{IsPartitionedBy-leb}
use Rattle.std.proofs.lemmas.Fn.{always_returns_same}
use Rattle.plan_clock.specs.declared.row.Change.{Change}
use Rattle.plan_clock.specs.Rows.{no_change}
use Rattle.plan_clock.proofs.RowLemmas.{rise}
use Rattle.plan_clock.proofs.clock.passed.Goals as goal

pub returns : goal.returns
returns c =
    let test = λ (change : Change). nat_le change.second c.args.second in
    let point = c.partition_point.ensures.partitioned test
    (always_returns_same _ _ _ (λ a r f k. search (rules, of_calls)))
    (IsPartitionedBy-leb (λ (change : Change). change.second) c.args.changes.now c.args.second (rise c.args.changes.now c.requires)) in
    record {
      bound = c.partition_point.ensures.bound;
      begun = λ k lt. leb-true (get_or c.args.changes.now k no_change).second c.args.second (point.0 k no_change (omega arith) lt);
      next = λ lt. leb-false (get_or c.args.changes.now c.partition_point.result no_change).second c.args.second
          (point.1 c.partition_point.result no_change (omega arith) lt);
    }
