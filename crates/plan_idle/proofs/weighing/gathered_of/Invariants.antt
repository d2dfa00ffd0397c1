use Rattle.std.proofs.Common.{◌≡◌, true, [], drop}
use Rattle.plan_idle.specs.Gathered.{weighed_all}
use Rattle.plan_idle.proofs.weighing.gathered_of.Given as goal

-- the steps that are left, after those so far, leave what all steps leave
abbrev pub invariant-loop-step : goal.invariant-loop-step
invariant-loop-step g l =
    g.L.Look.is_known ≡ true →
    weighed_all (g.L.Look.looks l.looks) (drop l.step-index l.steps) l.stack ≡ weighed_all (g.L.Look.looks l.looks) l.steps []
