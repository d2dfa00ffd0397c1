-- A command as a tree, and the tree that the steps of a command make.
use Rattle.std.specs.Prelude.{ℕ, Bool, true, List, [], ◌∷◌}
use Rattle.plan_shell.specs.declared.step.Property.{Property}
use Rattle.plan_shell.specs.declared.step.Step.{Step}
use Rattle.plan_shell.specs.declared.step.Step.TheVariants as step

-- a simple command that looks at a path or a name; one whose value is known; another simple command; `! a`; `a; b` and `a | b`;
-- `a && b`; `a || b`; `if a; then b; else c; fi`
pub data Shell : Type 0 where
  Look : Property → List ℕ → Shell
  Known : Bool → Shell
  Effect : Shell
  Not : Shell → Shell
  Both : Shell → Shell → Shell
  And : Shell → Shell → Shell
  Or : Shell → Shell → Shell
  If : Shell → Shell → Shell → Shell

-- a step takes the trees of its parts, of which the last is the first here
abbrev pub with_step : Step → List Shell → List Shell
with_step (step.Look property subject) trees = Look property subject ∷ trees
with_step (step.Known value) trees = Known value ∷ trees
with_step step.Effect trees = Effect ∷ trees
with_step step.Not [] = []
with_step step.Not (a ∷ trees) = Not a ∷ trees
with_step step.Both [] = []
with_step step.Both (b ∷ []) = []
with_step step.Both (b ∷ a ∷ trees) = Both a b ∷ trees
with_step step.And [] = []
with_step step.And (b ∷ []) = []
with_step step.And (b ∷ a ∷ trees) = And a b ∷ trees
with_step step.Or [] = []
with_step step.Or (b ∷ []) = []
with_step step.Or (b ∷ a ∷ trees) = Or a b ∷ trees
with_step step.If [] = []
with_step step.If (c ∷ []) = []
with_step step.If (c ∷ b ∷ []) = []
with_step step.If (c ∷ b ∷ a ∷ trees) = If a b c ∷ trees

abbrev pub with_steps : List Step → List Shell → List Shell
with_steps [] trees = trees
with_steps (step ∷ steps) trees = with_steps steps (with_step step trees)

abbrev pub top : List Shell → Shell
top [] = Known true
top (tree ∷ trees) = tree

-- the tree of the steps of a command
abbrev pub tree_of : List Step → Shell
tree_of steps = top (with_steps steps [])
