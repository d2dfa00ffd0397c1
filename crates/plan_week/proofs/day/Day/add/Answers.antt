use Rattle.std.proofs.Common.{◌+◌, None, Some, ap}
use Rattle.plan_week.specs.Table.{with_starts}
use Rattle.plan_week.proofs.TableLemmas.{changed_within}
use Rattle.plan_week.proofs.day.Day.add.Goals as goal

pub returns : goal.returns
returns c =
    let day = c.args.self.now in
    let hours = changed_within (with_starts c.args.starts) c.args.hour day.hours None _
    (ap (λ n. Some (n + c.args.starts)) c.unwrap_or.ensures) in
    λ i. record { number = day.number; hours = hours i }
