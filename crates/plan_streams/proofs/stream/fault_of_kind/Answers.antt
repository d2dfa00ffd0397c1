use Rattle.std.proofs.Common.{ap, sym}
use Rattle.plan_streams.specs.Stream.{fault_of_kind}
use Rattle.plan_streams.proofs.stream.fault_of_kind.Goals as goal

pub returns-in-BrokenPipe : goal.returns-in-BrokenPipe
returns-in-BrokenPipe c = ap fault_of_kind (sym c.in-BrokenPipe.is)
