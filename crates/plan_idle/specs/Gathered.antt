-- What the steps of a command may run: its outcomes, and the directories of its `run-parts` commands.
use Rattle.std.specs.Prelude.{ℕ, true, List, [], ◌∷◌, ◌++◌, None}
use Rattle.plan_shell.specs.declared.step.Property.{Property}
use Rattle.plan_shell.specs.declared.step.Step.{Step}
use Rattle.plan_shell.specs.declared.step.Step.TheVariants as step
use Rattle.plan_shell.specs.Tree.{Shell}
use Rattle.plan_idle.specs.declared.outcomes.Outcomes.{Outcomes}
use Rattle.plan_idle.specs.Outcomes.{and_outcomes, both, effect, if_outcomes, known, looked_at, not_outcomes, or_outcomes, outcomes}
use Rattle.plan_idle.specs.Run.{Looks}
use Rattle.plan_idle.specs.Scripts.{directories, look_directories, only_if}

-- what a command may run, and the directories of its `run-parts` commands that may run
pub record Gathered : Type 0 where
  pub outcomes : Outcomes
  pub dirs : List (List ℕ)

abbrev pub gathered : Outcomes → List (List ℕ) → Gathered
gathered outcomes dirs = record { outcomes = outcomes; dirs = dirs }

-- a command without `run-parts`
abbrev pub alone : Outcomes → Gathered
alone outcomes = gathered outcomes []

-- a command that looks at something
abbrev pub at_look : Looks → Property → List ℕ → Gathered
at_look looks property subject =
    gathered (looked_at property subject (looks property subject)) (look_directories property subject)

abbrev pub at_not : Gathered → Gathered
at_not a = gathered (not_outcomes a.outcomes) a.dirs

abbrev pub at_both : Gathered → Gathered → Gathered
at_both a b = gathered (both a.outcomes b.outcomes) (a.dirs ++ b.dirs)

abbrev pub at_and : Gathered → Gathered → Gathered
at_and a b = gathered (and_outcomes a.outcomes b.outcomes) (a.dirs ++ only_if a.outcomes.may_be_true b.dirs)

abbrev pub at_or : Gathered → Gathered → Gathered
at_or a b = gathered (or_outcomes a.outcomes b.outcomes) (a.dirs ++ only_if a.outcomes.may_be_false b.dirs)

abbrev pub at_if : Gathered → Gathered → Gathered → Gathered
at_if a b c =
    gathered (if_outcomes a.outcomes b.outcomes c.outcomes)
    (a.dirs ++ (only_if a.outcomes.may_be_true b.dirs ++ only_if a.outcomes.may_be_false c.dirs))

-- what a command may run
abbrev pub gathered_of : Looks → Shell → Gathered
gathered_of looks tree = gathered (outcomes looks tree) (directories looks tree)

-- ---- the same over the steps of a command

-- a step takes what its parts may run from a stack, of which the last is the first here, and adds its own
abbrev pub weighed_one : List Gathered → List Gathered
weighed_one [] = []
weighed_one (a ∷ stack) = at_not a ∷ stack

abbrev pub weighed_two : (Gathered → Gathered → Gathered) → List Gathered → List Gathered
weighed_two joined [] = []
weighed_two joined (b ∷ []) = []
weighed_two joined (b ∷ a ∷ stack) = joined a b ∷ stack

abbrev pub weighed_three : List Gathered → List Gathered
weighed_three [] = []
weighed_three (c ∷ []) = []
weighed_three (c ∷ b ∷ []) = []
weighed_three (c ∷ b ∷ a ∷ stack) = at_if a b c ∷ stack

abbrev pub weighed : Looks → Step → List Gathered → List Gathered
weighed looks (step.Look property subject) stack = at_look looks property subject ∷ stack
weighed looks (step.Known value) stack = alone (known value None) ∷ stack
weighed looks step.Effect stack = alone effect ∷ stack
weighed looks step.Not stack = weighed_one stack
weighed looks step.Both stack = weighed_two at_both stack
weighed looks step.And stack = weighed_two at_and stack
weighed looks step.Or stack = weighed_two at_or stack
weighed looks step.If stack = weighed_three stack

abbrev pub weighed_all : Looks → List Step → List Gathered → List Gathered
weighed_all looks [] stack = stack
weighed_all looks (step ∷ steps) stack = weighed_all looks steps (weighed looks step stack)

-- what the whole command may run
abbrev pub top_gathered : List Gathered → Gathered
top_gathered [] = alone (known true None)
top_gathered (a ∷ stack) = a
