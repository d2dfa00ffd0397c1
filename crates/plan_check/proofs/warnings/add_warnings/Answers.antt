-- Without a clock there are no warnings.
use Rattle.std.proofs.Common.{append-nil, sym}
use Rattle.plan_check.proofs.warnings.add_warnings.Goals as goal

pub returns-in-None-clause-warnings : goal.returns-in-None-clause-warnings
returns-in-None-clause-warnings c = rw c.in-None.is (sym (append-nil c.args.found.now.items))
