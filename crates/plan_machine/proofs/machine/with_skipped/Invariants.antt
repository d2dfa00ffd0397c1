use Rattle.std.proofs.Common.{◌≡◌, ◌++◌, map}
use Rattle.std.specs.Vec.Iter.{into_iter_items}
use Rattle.plan_timers.specs.declared.reports.Why.TheVariants.{NotReadable}
use Rattle.plan_machine.proofs.machine.with_skipped.Given as goal

-- what is skipped so far, with the paths that are left, is all
abbrev pub invariant-loop-path : goal.invariant-loop-path
invariant-loop-path l =
    l.skipped.items ++ map (λ path. record { path = path; why = NotReadable }) (into_iter_items l.path-iterator)
    ≡ l.fn.machine.skipped.items ++ map (λ path. record { path = path; why = NotReadable }) l.fn.paths.items
