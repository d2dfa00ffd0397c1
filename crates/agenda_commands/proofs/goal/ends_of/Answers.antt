-- There are as many ends as jobs.
use Rattle.std.proofs.Common.{◌≡◌, ◌∙◌, List, length, Result, Ok, Err, IfOk, ap}
use Rattle.std.proofs.lemmas.List.{length-map}
use Rattle.std.proofs.lemmas.List.FromFn.{length-enumerate_from}
use Rattle.plan_rules.specs.Job.{JobParts}
use Rattle.plan_write.specs.Texts.{EndParts, object_ends}
use Rattle.plan_write.specs.declared.JobFile.{JobFile}
use Rattle.agenda_commands.proofs.goal.ends_of.Goals as goal

counted :
    {E : Type 0} (files : List JobFile) (jobs : List JobParts) (made : Result (List EndParts) E) →
    IfOk made (λ ends. ends ≡ object_ends files jobs) → IfOk made (λ ends. length ends ≡ length jobs)
counted files jobs (Ok ends) same = ap length same ∙ length-map _ _ ∙ length-enumerate_from 0 jobs
counted files jobs (Err other) same = tt

pub returns-in-Some-clause-count : goal.returns-in-Some-clause-count
returns-in-Some-clause-count c = counted _ _ _ c.with_files.ensures.ends
