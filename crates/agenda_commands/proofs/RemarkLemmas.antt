-- The answer with what is said about it: for `prepare_remarked` and its parts.
use Rattle.std.proofs.Common.{◌≡◌, ℕ, Bool, true, false, cond, List, length, Result, Ok, Err, ap, subst, sym, None}
use Rattle.std.specs.Prelude.{nat_le}
use Rattle.plan_texts.specs.Steps.{◌>>=◌}
use Rattle.plan_collect.specs.Agenda.{Planned}
use Rattle.plan_collect.specs.Planning.{agenda_within, valid_sizes}
use Rattle.plan_collect.specs.Span.{Bounds}
use Rattle.plan_collect.specs.Windows.{Timing, agenda_of_windows, planned_windows, timings_of}
use Rattle.plan_collect.specs.declared.PlanFault.{PlanFault}
use Rattle.plan_collect.specs.declared.Sizes.{Sizes}
use Rattle.plan_rules.specs.Delays.{counted}
use Rattle.plan_rules.specs.Job.{JobParts}
use Rattle.agenda_cover.specs.Cover.{AreInOrder}
use Rattle.agenda_cover.proofs.OrderLemmas.{agenda-in_order}
use Rattle.agenda_faults.specs.Faults.{fault_of_plan}
use Rattle.agenda_commands.specs.Command.{step}
use Rattle.agenda_commands.specs.Form.{AnswersForm}
use Rattle.agenda_commands.specs.Goal.{AnswersPlan, agenda_of_jobs, quiet_output}
use Rattle.agenda_commands.specs.Remark.{IsOfGaps}
use Rattle.agenda_commands.specs.Table.{IsQuietTable}
use Rattle.agenda_commands.specs.declared.goal.Goal.TheVariants as goal
use Rattle.agenda_commands.specs.declared.goal.Planning.{Planning}
use Rattle.agenda_commands.specs.declared.prepare.Form.{Form}
use Rattle.agenda_commands.specs.declared.prepare.Form.TheVariants as form
use Rattle.agenda_commands.specs.declared.table.TableForm.{TableForm}

-- ---- the agenda of a plan

made_within :
    (few : Bool) (timings : List Timing) (span : Bounds) (fault : PlanFault) (made : Planned) →
    step fault_of_plan (cond few (Ok (planned_windows timings span)) (Err fault)) ≡ Ok made → planned_windows timings span ≡ made
made_within true timings span fault made is = cc
made_within false timings span fault made is = absurd cc

made_valid :
    (valid : Result Sizes PlanFault) (timings : List Timing) (span : Bounds) (made : Planned) →
    step fault_of_plan (valid >>= (λ sizes. agenda_within timings span sizes.limit)) ≡ Ok made → planned_windows timings span ≡ made
made_valid (Ok sizes) timings span made is =
    made_within (nat_le (length (agenda_of_windows timings span)) sizes.limit) timings span _ made is
made_valid (Err fault) timings span made is = absurd cc

-- an agenda that is made is that of the windows
pub planned-made :
    (jobs : List JobParts) (planning : Planning) (made : Planned) → agenda_of_jobs jobs planning ≡ Ok made →
    planned_windows (timings_of jobs) planning.span ≡ made
planned-made jobs planning made is = made_valid (valid_sizes planning.sizes) (timings_of jobs) planning.span made is

-- so its entries are in order
pub planned-in_order :
    (jobs : List JobParts) (planning : Planning) (made : Planned) → agenda_of_jobs jobs planning ≡ Ok made → AreInOrder made.entries
planned-in_order jobs planning made is =
    subst (λ (m : Planned). AreInOrder m.entries) (planned-made jobs planning made is) (agenda-in_order (timings_of jobs) planning.span)

-- ---- the gaps

-- the gaps of the agenda of a plan are its answer
pub answers_gaps :
    (shape : Form) (planning : Planning) (least : ℕ) (jobs planned : List JobParts) (made : Planned) (text : List ℕ) →
    planned ≡ counted planning.delays jobs → agenda_of_jobs planned planning ≡ Ok made → IsOfGaps shape least made planned text →
    AnswersForm None shape (goal.Quiet planning least) (Ok jobs) (Ok text)
answers_gaps (form.Lines format) planning least jobs planned made text same is found =
    subst (λ (js : List JobParts). quiet_output format js planning least ≡ Ok text) same (rw is (ap Ok (sym found)))
answers_gaps (form.Table table) planning least jobs planned made text same is found =
    subst
    (λ (js : List JobParts). AnswersPlan (λ (m : Planned) (t : List ℕ). IsQuietTable table least m js t) (agenda_of_jobs js planning)
    (Ok text)) same (rw is found)

-- the table of gaps is their text in its form
pub gaps_table :
    (shape : Form) (table : TableForm) (least given : ℕ) (made : Planned) (jobs : List JobParts) (text answer : List ℕ) →
    shape ≡ form.Table table → given ≡ least → answer ≡ text → IsQuietTable table given made jobs text → IsOfGaps shape least made jobs answer
gaps_table shape table least given made jobs text answer is same wrote found =
    subst (λ (s : Form). IsOfGaps s least made jobs answer) (sym is)
    (subst (λ (n : ℕ). IsQuietTable table n made jobs answer) same
    (subst (λ (t : List ℕ). IsQuietTable table given made jobs t) (sym wrote) found))
