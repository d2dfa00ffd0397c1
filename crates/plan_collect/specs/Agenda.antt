-- The agenda of jobs over a span: every second of the span and every job (agenda).
use Rattle.std.specs.Prelude.{ℕ, ◌+◌, ◌-◌, List, [], ◌∷◌, map, nat_lt, IsTrue, if◌then◌else◌, refl}
use Rattle.std.specs.Coded.{Coded, code_by, coded×, coded_list, coded_ℕ}
use Rattle.std.specs.List.{range_with_len, flat_map, list_all}
use Rattle.plan_sets.specs.Limits.{end_second}
use Rattle.plan_match.specs.declared.rule.Rule.{Rule}
use Rattle.plan_next.specs.Starts.{is_start}
use Rattle.plan_rules.specs.Job.{JobParts}
use Rattle.plan_next.specs.Span.{Bounds, bounds_code}

-- the rules of jobs: the rule at place j is that of the job with number j
abbrev pub rules_of : List JobParts → List Rule
rules_of jobs = map (λ job. job.rule) jobs

-- the entries of one second: the jobs that start then, ascending; the first rule is that of the job with number `job`
abbrev pub row_from : (job : ℕ) → List Rule → (second : ℕ) → List (ℕ × ℕ)
row_from job [] second = []
row_from job (rule ∷ rules) second =
    if is_start rule second then (second, job) ∷ row_from (job + 1) rules second else row_from (job + 1) rules second

-- the agenda: for each second of the span, ascending, each job that starts then, ascending
unfoldable pub agenda : List Rule → Bounds → List (ℕ × ℕ)
agenda rules span = flat_map (row_from 0 rules) (range_with_len span.since (span.upto - span.since))

-- what contracts see of an agenda: its span and its entries
pub record Planned : Type 0 where
  pub span : Bounds
  pub entries : List (ℕ × ℕ)

-- an agenda is stored as the pair of these
abbrev pub planned_code : Coded Planned
planned_code =
    code_by (Bounds × List (ℕ × ℕ)) (coded× bounds_code (coded_list (coded× coded_ℕ coded_ℕ))) (λ made. (made.span, made.entries))
    (λ t. record { span = t.0; entries = t.1 }) (λ _. refl)

-- the agenda over a span, with the span
abbrev pub planned : List Rule → Bounds → Planned
planned rules span = record { span = span; entries = agenda rules span }

-- all seconds are in the years that can be planned, which end before `end_second`
abbrev pub IsInYears : List (ℕ × ℕ) → Type 0
IsInYears entries = IsTrue (list_all (λ entry. nat_lt entry.0 end_second) entries)

-- all entries are of jobs with numbers below this one
abbrev pub IsOfJobs : (jobs : ℕ) → List (ℕ × ℕ) → Type 0
IsOfJobs jobs entries = IsTrue (list_all (λ entry. nat_lt entry.1 jobs) entries)
