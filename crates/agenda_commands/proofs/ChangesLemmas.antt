-- The changes of an agenda: for `make_changes`. Its lines are in the order of their seconds, and it says whether there are any.
use Rattle.std.proofs.Common.{◌≡◌, ◌∙◌, ℕ, zero, suc, ◌<◌, ◌≤◌, not, List, [], ◌∷◌, length, get_or, map, Ok, Result, ap, subst, sym, arith}
use Rattle.std.specs.Prelude.{nat_le, ◌==◌}
use Rattle.std.specs.List.{list_all}
use Rattle.std.proofs.lemmas.Bool.{and_parts, leb-true}
use Rattle.std.proofs.lemmas.List.Sorted.{length_permutation}
use Rattle.plan_baseline.specs.Line.{Line}
use Rattle.plan_changes.specs.Changes.{AreAscending, AreChanges, have_changed}
use Rattle.plan_changes.specs.Lines.{job_texts, lines_of}
use Rattle.plan_changes.specs.declared.change.Change.{Change}
use Rattle.plan_collect.specs.Agenda.{Planned}
use Rattle.plan_rules.specs.Job.{JobParts}
use Rattle.agenda_cover.specs.Cover.{AreFrom, AreInOrder}
use Rattle.agenda_commands.proofs.RemarkLemmas.{planned-made}
use Rattle.agenda_commands.specs.Goal.{AnswersPlan, agenda_lines, agenda_of_jobs, lines_of_plan}
use Rattle.agenda_commands.specs.Table.{IsChangesTable}
use Rattle.agenda_commands.specs.declared.goal.Planning.{Planning}
use Rattle.agenda_commands.specs.declared.table.TableForm.{TableForm}
use Rattle.agenda_faults.specs.declared.faults.RunFault.{RunFault}

-- no line of entries is before a second that no entry is before
line_from :
    (jobs : List (List ℕ × List ℕ)) (second : ℕ) (entries : List (ℕ × ℕ)) → AreFrom second entries → (place : ℕ) (other : Line) →
    place < length (lines_of jobs entries) → second ≤ (get_or (lines_of jobs entries) place other).second
line_from jobs second [] from place other lt = absurd (omega arith)
line_from jobs second (entry ∷ later) from zero other lt =
    leb-true second entry.0 (and_parts (nat_le second entry.0) (list_all (λ one. nat_le second one.0) later) from).0
line_from jobs second (entry ∷ later) from (suc place) other lt =
    line_from jobs second later (and_parts (nat_le second entry.0) (list_all (λ one. nat_le second one.0) later) from).1 place other
    (omega arith)

-- the lines of entries in order ascend
pub ascending : (jobs : List (List ℕ × List ℕ)) (entries : List (ℕ × ℕ)) → AreInOrder entries → AreAscending (lines_of jobs entries)
ascending jobs [] order i j other le lt = absurd (omega arith)
ascending jobs (entry ∷ later) order zero zero other le lt = omega arith
ascending jobs (entry ∷ later) order zero (suc j) other le lt = line_from jobs entry.0 later order.0 j other (omega arith)
ascending jobs (entry ∷ later) order (suc i) zero other le lt = absurd (omega arith)
ascending jobs (entry ∷ later) order (suc i) (suc j) other le lt = ascending jobs later order.1 i j other (omega arith) (omega arith)

-- there are changes exactly if the lists differ
same_count : {A : Type 0} (one other : List A) → length other ≡ length one → not (length other == 0) ≡ not (length one == 0)
same_count one other is = ap (λ (n : ℕ). not (n == 0)) is

pub found :
    (before : List Line) (jobs : List JobParts) (planning : Planning) (made : Planned) (changes : List Change) →
    agenda_of_jobs jobs planning ≡ Ok made → AreChanges before (agenda_lines jobs made.entries) changes →
    not (length changes == 0) ≡ have_changed before (lines_of_plan jobs planning)
found before jobs planning made changes is are =
    same_count _ changes (length_permutation _ changes are.0)
    ∙ ap (λ (m : Planned). have_changed before (agenda_lines jobs m.entries)) (sym (planned-made jobs planning made is))

-- the table of changes answers for the jobs that count
pub answers_changes :
    (form : TableForm) (before earlier : List Line) (jobs counted : List JobParts) (planning : Planning) (made : Planned)
    (texts : List (List ℕ × List ℕ)) (text : List ℕ) → counted ≡ jobs → agenda_of_jobs counted planning ≡ Ok made →
    texts ≡ map job_texts counted → earlier ≡ before → IsChangesTable form earlier made texts text →
    AnswersPlan (λ made text. IsChangesTable form before made (map job_texts jobs) text) (agenda_of_jobs jobs planning) (Ok text)
answers_changes form before earlier jobs counted planning made texts text same planned own was is =
    subst (λ (js : List JobParts). AnswersPlan (λ made text. IsChangesTable form before made (map job_texts js) text) (agenda_of_jobs js planning) (Ok text))
    same
    (subst
    (λ (plan : Result Planned RunFault). AnswersPlan (λ made text. IsChangesTable form before made (map job_texts counted) text) plan (Ok text))
    (sym planned)
    (subst (λ (ts : List (List ℕ × List ℕ)). IsChangesTable form before made ts text) own
    (subst (λ (lines : List Line). IsChangesTable form lines made texts text) was is)))
