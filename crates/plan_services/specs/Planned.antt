-- The timers whose units can start, and why the others aren't planned (systemd.timer(5)).
use Rattle.std.specs.Prelude.{ℕ, if◌then◌else◌, List, [], ◌∷◌, Option, None, Some}
use Rattle.plan_services.specs.declared.planned.UnitFault.{UnitFault}
use Rattle.plan_services.specs.declared.planned.UnitFault.TheVariants.{Idle, Masked, Missing}
use Rattle.plan_timers.specs.declared.reports.NotPlanned.{NotPlanned}
use Rattle.plan_timers.specs.declared.reports.Unplanned.{Unplanned}
use Rattle.plan_timers.specs.declared.reports.Unplanned.TheVariants.{UnitIdle, UnitMasked, UnitMissing}
use Rattle.plan_timers.specs.Source.{TimerParts}
use Rattle.plan_services.specs.Commands.{is_idle}
use Rattle.plan_services.specs.Started.{started_unit}
use Rattle.plan_tree.specs.Tree.{Held}
use Rattle.plan_units.specs.declared.paths.UnitDir.{UnitDir}
use Rattle.plan_units.specs.declared.unit.Unit.{Unit}
use Rattle.plan_units.specs.Masks.{is_mask}
use Rattle.plan_units.specs.Unit.{unit_of}

-- ---- the unit

-- a unit has a file, or a template that has one, isn't masked, and can start
abbrev pub fault_by_unit : Held → List UnitDir → Option Unit → Option UnitFault
fault_by_unit held dirs None = Some Missing
fault_by_unit held dirs (Some unit) =
    if is_mask held.node unit.file.real then Some Masked else
    if is_idle held dirs unit then Some Idle else
    None

abbrev pub unit_fault : Held → List UnitDir → List ℕ → Option UnitFault
unit_fault held dirs name = fault_by_unit held dirs (unit_of held.node dirs name)

-- ---- one timer

abbrev pub why_by : List ℕ → UnitFault → Unplanned
why_by unit Missing = UnitMissing unit
why_by unit Masked = UnitMasked unit
why_by unit Idle = UnitIdle unit

-- a timer is reported by the path of its own file
abbrev pub other_by : List ℕ → List ℕ → Option UnitFault → Option NotPlanned
other_by path unit None = None
other_by path unit (Some fault) = Some (record { path = path; why = why_by unit fault })

-- a timer whose unit can't start isn't planned, since systemd rejects it (systemd 252)
abbrev pub why_not : Held → List UnitDir → TimerParts → Option NotPlanned
why_not held dirs timer =
    other_by timer.file.path (started_unit timer) (unit_fault held dirs (started_unit timer))

-- ---- several timers

abbrev pub with_planned : Option NotPlanned → TimerParts → List TimerParts → List TimerParts
with_planned None timer more = timer ∷ more
with_planned (Some other) timer more = more

-- those of some timers that are planned
abbrev pub planned : Held → List UnitDir → List TimerParts → List TimerParts
planned held dirs [] = []
planned held dirs (timer ∷ more) = with_planned (why_not held dirs timer) timer (planned held dirs more)

abbrev pub with_other : Option NotPlanned → List NotPlanned → List NotPlanned
with_other None more = more
with_other (Some other) more = other ∷ more

-- the others, and why
abbrev pub not_planned : Held → List UnitDir → List TimerParts → List NotPlanned
not_planned held dirs [] = []
not_planned held dirs (timer ∷ more) = with_other (why_not held dirs timer) (not_planned held dirs more)
