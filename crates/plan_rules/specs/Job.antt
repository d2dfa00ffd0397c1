-- What contracts say of a job.
use Rattle.std.specs.Prelude.{ℕ, Bool, List, Option, refl}
use Rattle.std.specs.Coded.{Coded, code_by, coded×, coded_bool, coded_list, coded_option, coded_ℕ}
use Rattle.plan_match.specs.contracts.rule.Rule.{the_row}
use Rattle.plan_match.specs.declared.rule.Rule.{Rule}

-- a job: its name, the user that runs it if its line names one, its command, the rule by which it starts, its delay in seconds, and
-- whether it makes up for a start that was missed (agenda)
pub record JobParts : Type 0 where
  pub name : List ℕ
  pub user : Option (List ℕ)
  pub command : List ℕ
  pub rule : Rule
  pub delay : ℕ
  pub persistent : Bool

-- a job is encoded as all of these
abbrev pub job_code : Coded JobParts
job_code =
    code_by (List ℕ × (Option (List ℕ) × (List ℕ × (Rule × (ℕ × Bool)))))
    (coded× (coded_list coded_ℕ) (coded× (coded_option (coded_list coded_ℕ))
    (coded× (coded_list coded_ℕ) (coded× the_row.coded (coded× coded_ℕ coded_bool)))))
    (λ job. (job.name, (job.user, (job.command, (job.rule, (job.delay, job.persistent))))))
    (λ p. record { name = p.0; user = p.1.0; command = p.1.1.0; rule = p.1.1.1.0; delay = p.1.1.1.1.0; persistent = p.1.1.1.1.1 })
    (λ _. refl)
