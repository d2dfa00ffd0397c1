-- What a command may run, whatever the values are that aren't known (agenda).
use Rattle.std.specs.Prelude.{ℕ, Bool, true, false, ◌||◌, if◌then◌else◌, List, Option, Some, None}
use Rattle.plan_shell.specs.declared.step.Property.{Property}
use Rattle.plan_shell.specs.Tree.{Shell, Look, Known, Effect, Not, Both, And, Or, If}
use Rattle.plan_idle.specs.declared.answer.Answer.{Answer}
use Rattle.plan_idle.specs.declared.answer.Answer.TheVariants.{Yes, No, Unknown, Acts}
use Rattle.plan_idle.specs.declared.outcomes.Outcomes.{Outcomes}
use Rattle.plan_idle.specs.declared.outcomes.Seen.{Seen}
use Rattle.plan_idle.specs.Run.{Looks}

abbrev pub made : (may_be_true may_be_false may_act : Bool) → Option Seen → Outcomes
made may_be_true may_be_false may_act last =
    record { may_be_true = may_be_true; may_be_false = may_be_false; may_act = may_act; last = last }

abbrev pub seen : Property → List ℕ → Bool → Option Seen
seen property subject holds = Some (record { property = property; subject = subject; holds = holds })

-- a value that is known
abbrev pub known : Bool → Option Seen → Outcomes
known true last = made true false false last
known false last = made false true false last

-- a command that may have an effect
abbrev pub effect : Outcomes
effect = made true true true None

-- a command that looks at something
abbrev pub looked_at : Property → List ℕ → Answer → Outcomes
looked_at property subject Yes = known true (seen property subject true)
looked_at property subject No = known false (seen property subject false)
looked_at property subject Unknown = made true true false None
looked_at property subject Acts = effect

-- the later of two looks
abbrev pub later : Option Seen → Option Seen → Option Seen
later first None = first
later first (Some seen) = Some seen

abbrev pub not_outcomes : Outcomes → Outcomes
not_outcomes a = made a.may_be_false a.may_be_true a.may_act a.last

-- one command, and then another
abbrev pub both : Outcomes → Outcomes → Outcomes
both a b = made b.may_be_true b.may_be_false (a.may_act || b.may_act) (later a.last b.last)

-- one of two commands, of which either may run
abbrev pub either : Outcomes → Outcomes → Outcomes
either a b = made (a.may_be_true || b.may_be_true) (a.may_be_false || b.may_be_false) (a.may_act || b.may_act) (later a.last b.last)

-- one command, and another that runs if the value of that one is true, which it may be
abbrev pub after_true : Outcomes → Outcomes → Outcomes
after_true a b = made b.may_be_true (a.may_be_false || b.may_be_false) (a.may_act || b.may_act) (later a.last b.last)

-- one command, and another that runs if the value of that one is false, which it may be
abbrev pub after_false : Outcomes → Outcomes → Outcomes
after_false a b = made (a.may_be_true || b.may_be_true) b.may_be_false (a.may_act || b.may_act) (later a.last b.last)

abbrev pub and_outcomes : Outcomes → Outcomes → Outcomes
and_outcomes a b = if a.may_be_true then after_true a b else a

abbrev pub or_outcomes : Outcomes → Outcomes → Outcomes
or_outcomes a b = if a.may_be_false then after_false a b else a

-- the part that a condition chooses, or either
abbrev pub if_outcomes : Outcomes → Outcomes → Outcomes → Outcomes
if_outcomes a b c =
    if a.may_be_true then (if a.may_be_false then both a (either b c) else both a b) else both a c

abbrev pub outcomes : Looks → Shell → Outcomes
outcomes looks (Look property subject) = looked_at property subject (looks property subject)
outcomes looks (Known value) = known value None
outcomes looks Effect = effect
outcomes looks (Not a) = not_outcomes (outcomes looks a)
outcomes looks (Both a b) = both (outcomes looks a) (outcomes looks b)
outcomes looks (And a b) = and_outcomes (outcomes looks a) (outcomes looks b)
outcomes looks (Or a b) = or_outcomes (outcomes looks a) (outcomes looks b)
outcomes looks (If a b c) = if_outcomes (outcomes looks a) (outcomes looks b) (outcomes looks c)
