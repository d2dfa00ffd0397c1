-- The codes that error lines and warnings show (agenda).
use Rattle.std.specs.Prelude.{◌≡◌, ⊤, ℕ, Bool, true, false, List, ◌++◌, codes}
use Rattle.plan_sets.specs.declared.SetFault.TheVariants as set
use Rattle.plan_grammar.specs.declared.RuleCause.{RuleCause}
use Rattle.plan_grammar.specs.declared.RuleCause.TheVariants as rule
use Rattle.plan_rules.specs.declared.LineCause.{LineCause}
use Rattle.plan_rules.specs.declared.LineCause.TheVariants as line
use Rattle.plan_collect.specs.declared.CollectFault.TheVariants as collect
use Rattle.plan_collect.specs.declared.PlanFault.{PlanFault}
use Rattle.plan_collect.specs.declared.PlanFault.TheVariants as plan
use Rattle.agenda_faults.specs.declared.faults.RunFault.{RunFault}
use Rattle.agenda_faults.specs.declared.faults.RunFault.TheVariants as run
use Rattle.agenda_faults.specs.declared.faults.Failure.{Failure}
use Rattle.agenda_faults.specs.declared.faults.Failure.TheVariants as failure
use Rattle.plan_streams.specs.declared.WriteFault.TheVariants as stream
use Rattle.agenda_codes.specs.declared.Code.{Code}
use Rattle.agenda_codes.specs.Codes.{name_of}
use Rattle.agenda_codes.specs.Warned.{is_of_warning}

-- the name is that of a code
pub record HasCode (name : List ℕ) : Type 0 where
  pub code : Code
  pub is : name ≡ name_of code

-- the same of a code of a warning
pub record HasWarningCode (name : List ℕ) : Type 0 where
  pub code : Code
  pub is : name ≡ name_of code
  pub of_warning : is_of_warning code ≡ true

-- how a line ends: with the name of a code, which is in brackets if the line is in words
abbrev pub ending : (is_in_words : Bool) → Code → List ℕ
ending false code = name_of code ++ codes "\n"
ending true code = codes "[" ++ (name_of code ++ codes "]\n")

-- the line ends with the name of a code
pub record EndsWithCode (line : List ℕ) : Type 0 where
  pub front : List ℕ
  pub is_in_words : Bool
  pub code : Code
  pub is : line ≡ front ++ ending is_in_words code

-- the cause of a rule's error, apart from NoItem, which never comes: each list of a rule has an element
abbrev pub ComesInRule : RuleCause → Type 0
ComesInRule (rule.Values set.NoItem) = ⊥
ComesInRule other = ⊤

-- the cause of an error on a line
abbrev pub ComesOnLine : LineCause → Type 0
ComesOnLine (line.Rule fault) = ComesInRule fault.cause
ComesOnLine other = ⊤

-- the error of a plan, whose collector rejects nothing but too many starts
abbrev pub ComesInPlan : PlanFault → Type 0
ComesInPlan (plan.Collect collect.NoMemory) = ⊤
ComesInPlan (plan.Collect collect.TooMany) = ⊤
ComesInPlan (plan.Collect other) = ⊥
ComesInPlan other = ⊤

-- the error of a command; a pipe whose reader closed it has no line
abbrev pub ComesInRun : RunFault → Type 0
ComesInRun (run.Device stream.Closed) = ⊥
ComesInRun (run.Rule fault) = ComesInRule fault.cause
ComesInRun (run.InSource place fault) = ComesOnLine fault.cause
ComesInRun (run.Plan fault) = ComesInPlan fault
ComesInRun other = ⊤

-- a failure that can come, and whose line has a code: usage errors, and what is wrong with the root of a machine, have none
abbrev pub HasLine : Failure → Type 0
HasLine (failure.Usage text) = ⊥
HasLine (failure.NotDirectory root) = ⊥
HasLine (failure.NoSystem root) = ⊥
HasLine (failure.TooManyUnits root) = ⊥
HasLine (failure.Run fault) = ComesInRun fault
HasLine other = ⊤
