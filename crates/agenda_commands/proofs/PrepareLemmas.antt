-- How the answer for jobs follows from its steps: for `prepare_answer`.
use Rattle.std.proofs.Common.{◌≡◌, ◌≢◌, List, ℕ, Option, None, Some, IfSome, IfErr, Result, Ok, Err, ap, subst, sym, ◌∙◌}
use Rattle.std.specs.Result.{IsErrAnd}
use Rattle.plan_rules.specs.Job.{JobParts}
use Rattle.agenda_sources.specs.declared.SourceFault.{SourceFault}
use Rattle.agenda_faults.specs.Faults.{fault_of_sources}
use Rattle.agenda_faults.specs.declared.faults.RunFault.{RunFault}
use Rattle.agenda_faults.specs.declared.faults.RunFault.TheVariants.{NoMemory}
use Rattle.agenda_commands.specs.Goal.{Makes}

-- there are no jobs, and their error was passed on
pub rejected :
    {A : Type 0} (view : A → List ℕ) (Answers : Result (List JobParts) RunFault → Result (List ℕ) RunFault → Type 0)
    (jobs : Result (List JobParts) RunFault) (fault : RunFault) (result : Result A RunFault) →
    ((found : RunFault) → Answers (Err found) (Err found)) →
    (fault ≢ NoMemory → jobs ≡ Err fault) → IsErrAnd result (λ found. found ≡ fault) →
    Makes (Answers jobs) view result
rejected view Answers jobs fault (Ok made) own is passed = absurd passed
rejected view Answers jobs fault (Err found) own is passed =
    λ other. let same : jobs ≡ Err found = is (λ memory. other (passed ∙ memory)) ∙ ap Err (sym passed) in
    subst (λ js. Answers js (Err found)) (sym same) (own found)

-- the goal's own error was passed on
pub failed :
    {A : Type 0} (view : A → List ℕ) (Answers : Result (List ℕ) RunFault → Type 0) (fault : RunFault) (result : Result A RunFault) →
    (fault ≢ NoMemory → Answers (Err fault)) → IsErrAnd result (λ found. found ≡ fault) →
    Makes Answers view result
failed view Answers fault (Ok made) is passed = absurd passed
failed view Answers fault (Err found) is passed =
    λ other. subst (λ f. Answers (Err f)) (sym passed) (is (λ memory. other (passed ∙ memory)))

-- an error of the first source, which was found at once, was passed on
pub first_at_once :
    {A B : Type 0} (first : Option SourceFault) (jobs : Result A RunFault) (fault : RunFault) (result : Result B RunFault) →
    jobs ≡ Err fault → IfSome first (λ found. jobs ≡ Err (fault_of_sources found)) → IsErrAnd result (λ found. found ≡ fault) →
    IfSome first (λ found. result ≡ Err (fault_of_sources found))
first_at_once None jobs fault result is first passed = tt
first_at_once (Some found) jobs fault (Ok done) is first passed = absurd passed
first_at_once (Some found) jobs fault (Err other) is first passed = cc

-- an error of the goal, which was found at once, was passed on
pub passed_at_once :
    {N A B : Type 0} (checked : Result N RunFault) (made : Result A RunFault) (fault : RunFault) (result : Result B RunFault) →
    made ≡ Err fault → IfErr checked (λ found. made ≡ Err found) → IsErrAnd result (λ found. found ≡ fault) →
    IfErr checked (λ found. result ≡ Err found)
passed_at_once (Ok n) made fault result is first passed = tt
passed_at_once (Err found) made fault (Ok done) is first passed = absurd passed
passed_at_once (Err found) made fault (Err other) is first passed = cc

-- an error of the goal, which is found at once, is none of what was made
pub made_at_once :
    {N A B : Type 0} (checked : Result N RunFault) (made : A) (answer : B) →
    IfErr checked (λ found. Ok made ≡ Err found) → IfErr checked (λ found. Ok answer ≡ Err found)
made_at_once (Ok n) made answer first = tt
made_at_once (Err found) made answer first = absurd cc
