-- What one timer adds comes before what the others add.
use Rattle.std.proofs.Common.{◌≡◌, List, [], ◌++◌, Option, None, Some, refl}
use Rattle.plan_timers.specs.declared.reports.NotPlanned.{NotPlanned}
use Rattle.plan_services.specs.Planned.{with_other, with_planned}
use Rattle.plan_timers.specs.Source.{TimerParts}

pub planned_then : (other : Option NotPlanned) (timer : TimerParts) (more : List TimerParts) →
    with_planned other timer more ≡ with_planned other timer [] ++ more
planned_then None timer more = refl
planned_then (Some other) timer more = refl

pub other_then : (other : Option NotPlanned) (more : List NotPlanned) → with_other other more ≡ with_other other [] ++ more
other_then None more = refl
other_then (Some other) more = refl
