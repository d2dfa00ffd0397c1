-- How a request for jobs is answered: for `make_outcome` and `report`.
use Rattle.std.proofs.Common.{◌≡◌, ◌≢◌, ◌⊎◌, inl, inr, ℕ, Bool, true, false, List, [], ◌∷◌, Option, Result, Ok, Err, IfErr, IfOk, is_err, refl, subst}
use Rattle.std.proofs.KnownBytes.{Keeps-refl}
use Rattle.plan_rules.specs.Job.{JobParts}
use Rattle.plan_streams.specs.Stream.{Puts}
use Rattle.plan_streams.specs.declared.WriteFault.{WriteFault}
use Rattle.agenda_sources.specs.declared.SourcePath.{SourcePath}
use Rattle.agenda_sources.specs.declared.Found.{Found}
use Rattle.agenda_sources.specs.declared.Source.{Source}
use Rattle.agenda_sources.specs.declared.TimeZones.{TimeZones}
use Rattle.agenda_faults.specs.declared.faults.Failure.{Failure}
use Rattle.agenda_faults.specs.declared.faults.Failure.TheVariants.{Run}
use Rattle.agenda_faults.specs.declared.faults.RunFault.{RunFault}
use Rattle.agenda_faults.specs.declared.faults.RunFault.TheVariants.{NoMemory}
use Rattle.agenda_commands.specs.declared.Goal.{Goal}
use Rattle.agenda_commands.specs.declared.RemarkedAnswer.{RemarkedAnswer}
use Rattle.agenda_commands.specs.Goal.{Makes, checked_jobs, valid_goal}
use Rattle.agenda_commands.specs.Prepare.{errors_if, jobs_if}
use Rattle.agenda_answers.specs.Describe.{described_as}
use Rattle.agenda_answers.specs.Outcome.{Outcome, Reports, answer_of, has_found, kept_of, lines_of_skipped, parted, settles}

-- ---- what is kept, and the answer

pub kept_made :
    (keeps_going : Bool) (zones : TimeZones) (sources : List Source) (errors : List Found) (jobs : Option (List JobParts)) →
    errors ≡ errors_if keeps_going zones sources → jobs ≡ jobs_if keeps_going zones sources →
    kept_of keeps_going zones sources (Ok (errors, jobs))
kept_made true zones sources errors jobs found left = cc
kept_made false zones sources errors jobs found left = cc

pub kept_fails :
    (keeps_going : Bool) (zones : TimeZones) (sources : List Source) → (keeps_going ≡ false → false ≡ true) →
    kept_of keeps_going zones sources (Err (Run NoMemory))
kept_fails true zones sources spared = refl
kept_fails false zones sources spared = let none : false ≡ true = spared refl in cc

fails_at_once :
    {A : Type 0} (valid : Result (Unit {0}) RunFault) (made : Result A RunFault) (failure : Failure) → IfErr valid (λ fault. made ≡ Err fault) →
    failure ≡ Run NoMemory → made ≡ Err NoMemory → IfErr valid (λ fault. failure ≡ Run fault)
fails_at_once (Ok done) made failure bad is memory = tt
fails_at_once (Err fault) made failure bad is memory = cc

-- the answer that is left of one with what is said about it
pub settled_parts :
    (Answers : Goal → Result (List JobParts) RunFault → Result (List ℕ) RunFault → Type 0) (goal : Goal)
    (jobs : Result (List JobParts) RunFault) (made settled : Result RemarkedAnswer RunFault) →
    Makes (Answers goal (checked_jobs goal jobs)) (λ all. all.answer) made → settles made (Ok settled) →
    answer_of Answers goal jobs (Ok (parted settled).0)
settled_parts Answers goal jobs made (Ok all) is same =
    ((λ none. cc), subst (Makes (Answers goal (checked_jobs goal jobs)) (λ all. all.answer)) same is)
settled_parts Answers goal jobs made (Err fault) is (other, same) = (
  (λ none. other (let one : fault ≡ NoMemory = cc in one)),
  (subst (Makes (Answers goal (checked_jobs goal jobs)) (λ all. all.answer)) same is) other,
)

-- whether it says that a start is found
pub found_parts :
    (finds : Bool) (made settled : Result RemarkedAnswer RunFault) → IfOk made (λ all. all.finds_any ≡ finds) →
    settles made (Ok settled) → (parted settled).1.finds_any ≡ has_found (parted settled).0 finds
found_parts finds made (Ok all) is same = subst (λ r. IfOk r (λ a. a.finds_any ≡ finds)) same is
found_parts finds made (Err fault) is same = refl

pub settled_failure :
    {A : Type 0} (Answers : Goal → Result (List JobParts) RunFault → Result (List ℕ) RunFault → Type 0) (goal : Goal)
    (jobs : Result (List JobParts) RunFault) (made : Result A RunFault) (failure : Failure) →
    IfErr (valid_goal goal) (λ fault. made ≡ Err fault) → (failure ≡ Run NoMemory) × (made ≡ Err NoMemory) →
    answer_of Answers goal jobs (Err failure)
settled_failure Answers goal jobs made failure bad (memory, none) =
    (memory, fails_at_once (valid_goal goal) made failure bad memory none)

-- descriptions, or the error of their jobs
pub described_answer :
    (output made : Result (List ℕ) RunFault) (answer : Result (Result (List ℕ) RunFault) Failure) →
    Makes (λ found. output ≡ found) (λ text. text) made → settles made answer → described_as output answer
described_answer output made (Ok (Ok text)) is same = ((λ none. cc), subst (Makes (λ found. output ≡ found) (λ text. text)) same is)
described_answer output made (Ok (Err fault)) is (other, same) = (
  (λ none. other (let one : fault ≡ NoMemory = cc in one)),
  (subst (Makes (λ found. output ≡ found) (λ text. text)) same is) other,
)
described_answer output made (Err failure) is (memory, none) = memory

-- ---- the streams

one_skipped : {A B : Type 0} (unread : List A) (errors : List B) → (unread ≡ [] → errors ≡ [] → ⊥) → (unread ≢ []) ⊎ (errors ≢ [])
one_skipped [] [] none = absurd (none refl refl)
one_skipped [] (error ∷ more) none = inr (λ is. cc)
one_skipped (path ∷ more) errors none = inl (λ is. cc)

-- standard error failed, which it doesn't if nothing is skipped
pub reported_off :
    (sources : List SourcePath) (kept : Outcome) (result : Result (Unit {0}) WriteFault) (flag all_out all_err : Bool)
    (out old new : Option (List ℕ)) → flag ≡ is_err result → flag ≡ true → Puts all_err result old new (lines_of_skipped kept) →
    (kept.unread ≡ [] → kept.errors ≡ [] → result ≡ Ok tt) →
    Reports sources kept 3 (record { takes_all = all_out; old = out; new = out }) (record { takes_all = all_err; old = old; new = new })
reported_off sources kept (Ok done) flag all_out all_err out old new is set put spared = absurd cc
reported_off sources kept (Err fault) flag all_out all_err out old new is set off spared =
    inl (one_skipped kept.unread kept.errors (λ a b. let no_error : Err fault ≡ Ok tt = spared a b in cc), off, refl, Keeps-refl out)
