-- The rule is the event's. An error is that of the event's text, or that of a failed allocation.
use Rattle.std.proofs.Common.{◌≡◌, ◌≢◌, Result, Ok, Err, arith}
use Rattle.std.proofs.lemmas.Bool.Decides.{nat_tests}
use Rattle.std.proofs.lemmas.List.Elements.{All-same, All-cons, All-nil}
use Rattle.plan_grammar.specs.declared.fault.RuleFault.{RuleFault}
use Rattle.plan_grammar.proofs.event.calendar_rule.Goals as goal
use Rattle.std.proofs.lemmas.Grind.{common_steps}

-- what succeeded, or failed because of an allocation, has no specifier
no_error : {A : Type 0} (a : Result A RuleFault) (x : A) (fault : RuleFault) → a ≡ Ok x → a ≢ Err fault
no_error a x fault a_is = grind (arith, nat_tests)

pub returns-clause-within : goal.returns-clause-within
returns-clause-within c = grind (arith, nat_tests, common_steps, All-same, All-cons, All-nil)

pub returns-clause-memory : goal.returns-clause-memory
returns-clause-memory c = tt

pub returns-clause-specifier : goal.returns-clause-specifier
returns-clause-specifier c = grind (arith, nat_tests, common_steps, no_error)
