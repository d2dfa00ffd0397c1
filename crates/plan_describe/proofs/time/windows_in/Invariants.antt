use Rattle.std.proofs.Common.{◌≡◌, [], drop}
use Rattle.plan_describe.specs.TimeSaid.{windows_after}
use Rattle.plan_describe.proofs.time.windows_in.Given as goal

abbrev pub invariant-loop-run : goal.invariant-loop-run
invariant-loop-run l =
    windows_after l.windows.items l.step l.in_hour (drop l.run-index l.runs) ≡ windows_after [] l.step l.in_hour l.runs
