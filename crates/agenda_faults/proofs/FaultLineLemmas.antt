-- The lines of errors whose cause is known not to be `NoMemory`: for the last branch of `put_rule_fault`,
-- `put_script_fault`, `put_source_rule_fault` and `put_source_fault`. By the cases of the cause: `NoMemory` is ruled
-- out, and so is `Rule` for the line of a source. In every other case the definition computes.
use Rattle.std.proofs.Common.{◌≡◌, ◌≢◌, ℕ, List, codes, refl}
use Rattle.plan_rules.specs.declared.RuleCause.{RuleCause}
use Rattle.plan_rules.specs.declared.RuleCause.TheVariants as cause
use Rattle.agenda_script.specs.declared.fault.ScriptCause.{ScriptCause}
use Rattle.agenda_script.specs.declared.fault.ScriptCause.TheVariants as script
use Rattle.plan_rules.specs.declared.RuleFault.{RuleFault}
use Rattle.plan_rules.specs.declared.LineCause.{LineCause}
use Rattle.plan_rules.specs.declared.LineCause.TheVariants as on_line
use Rattle.agenda_script.specs.Causes.{script_cause}
use Rattle.plan_grammar.specs.Causes.{rule_cause}
use Rattle.plan_rules.specs.Causes.{line_cause}
use Rattle.agenda_faults.specs.FaultLines.{numbered_line, rule_line, script_line, source_line, source_rule_line, text_of_line, text_of_part}

pub rule_line-other :
    (part : ℕ) (other : RuleCause) → other ≢ cause.NoMemory →
    rule_line part other ≡ numbered_line (codes "agenda: rule: part ") part (rule_cause other)
rule_line-other part cause.NoMemory not = absurd (not refl)
rule_line-other part other not = refl

pub script_line-other :
    (line : ℕ) (other : ScriptCause) → other ≢ script.NoMemory →
    script_line line other ≡ numbered_line (codes "agenda: script: line ") line (script_cause other)
script_line-other line script.NoMemory not = absurd (not refl)
script_line-other line other not = refl

-- the line of a rule in a source
pub source_rule_line-other :
    (source : List ℕ) (line part : ℕ) (other : RuleCause) → other ≢ cause.NoMemory →
    source_rule_line source line part other ≡ text_of_part source line part (rule_cause other)
source_rule_line-other source line part cause.NoMemory not = absurd (not refl)
source_rule_line-other source line part other not = refl

-- the line of a source
pub source_line-other :
    (source : List ℕ) (line : ℕ) (other : LineCause) → other ≢ on_line.NoMemory → ((fault : RuleFault) → other ≢ on_line.Rule fault) →
    source_line source line other ≡ text_of_line source line (line_cause other)
source_line-other source line on_line.NoMemory not no_rule = absurd (not refl)
source_line-other source line (on_line.Rule fault) not no_rule = absurd (no_rule fault refl)
source_line-other source line other not no_rule = refl
