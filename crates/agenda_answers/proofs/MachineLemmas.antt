-- What is found on a machine, or that its boot reaches too many units; what is computed unless an allocation fails; and whether
-- standard error takes what is reported.
use Rattle.std.proofs.Common.{◌≡◌, ℕ, Bool, true, false, List, Option, None, Some, MatchOption, Bor, Vec, Global, ap, length, IfNone, IfSome, IfErr, IfOk, Result, Ok, Err, is_err, refl, subst}
use Rattle.std.proofs.KnownBytes.{Keeps-refl}
use Rattle.std.specs.Io.KnownBytes.{Appends, Keeps}
use Rattle.std.specs.Option.{IsSomeAnd, option_map}
use Rattle.std.specs.Vec.{vec_len}
use Rattle.plan_clock.specs.declared.row.Change.{Change}
use Rattle.plan_streams.specs.Stream.{BreaksOff, Puts}
use Rattle.plan_texts.specs.Steps.{◌>>=◌}
use Rattle.plan_write.specs.declared.JobFile.{JobFile}
use Rattle.plan_streams.specs.declared.WriteFault.{WriteFault}
use Rattle.plan_machine.specs.Machine.{AreTooManyUnits, IsMachine}
use Rattle.plan_machine.specs.declared.machine.Machine.{Machine}
use Rattle.plan_machine.specs.declared.NotPlanned.{NotPlanned}
use Rattle.agenda_arguments.specs.declared.MachineCheck.{MachineCheck}
use Rattle.agenda_arguments.specs.declared.MachineDescribe.{MachineDescribe}
use Rattle.agenda_arguments.specs.declared.MachineJobs.{MachineJobs}
use Rattle.agenda_faults.specs.declared.faults.Failure.{Failure}
use Rattle.agenda_faults.specs.declared.faults.Failure.TheVariants.{Run}
use Rattle.agenda_faults.specs.declared.faults.RunFault.{RunFault}
use Rattle.agenda_faults.specs.declared.faults.RunFault.TheVariants.{NoMemory}
use Rattle.agenda_faults.specs.Status.{failed_status}
use Rattle.plan_rules.specs.Job.{JobParts}
use Rattle.agenda_commands.specs.Goal.{checked_goal, sized_goal, valid_goal}
use Rattle.agenda_commands.specs.Remark.{remark_of}
use Rattle.agenda_commands.specs.declared.Form.{Form}
use Rattle.agenda_commands.specs.declared.Goal.{Goal}
use Rattle.agenda_commands.specs.declared.RemarkedAnswer.{RemarkedAnswer}
use Rattle.agenda_sources.specs.declared.Found.{Found}
use Rattle.agenda_sources.specs.declared.Source.{Source}
use Rattle.agenda_sources.specs.declared.SourcePath.{SourcePath}
use Rattle.agenda_inputs.specs.Files.{Held, most_read}
use Rattle.agenda_answers.specs.Choice.{left_in}
use Rattle.agenda_answers.specs.Host.{KnownHost}
use Rattle.agenda_answers.specs.declared.choice.Left.{Left}
use Rattle.agenda_answers.specs.Machine.{Shown, found_below, jobs_rest, machine_zones, plans, remark_with, said_of, shows_descriptions, shows_findings, shows_jobs, stops_at_first}
use Rattle.agenda_answers.specs.Outcome.{Outcome, parted, settles}
use Rattle.agenda_inputs.specs.MachineZone.{KnownTree}
use Rattle.agenda_inputs.specs.Steps.{Step, goes, stops}

pub found_either :
    (tree : KnownTree) (all : Bool) (found : Option Machine) → IfSome found (λ machine. IsMachine tree.held all most_read machine) →
    IfNone found (AreTooManyUnits tree.held) → found_below tree all found
found_either tree all None some none = none
found_either tree all (Some machine) some none = some

-- an allocation failed before the zones of a machine were read
pub no_accuracy :
    (held : Held) (tree : KnownTree) (clock : List Change) (sources : List Source) →
    machine_zones held tree clock sources (Err (Run NoMemory))
unfolding machine_zones
no_accuracy held tree clock sources = stops (Run NoMemory) refl refl

-- the answer goes by what is planned, and otherwise by what is found on the machine
pub shown_as_planned :
    (held : Held) (host : KnownHost) (dir : List ℕ) (jobs : MachineJobs) (machine planned : Machine) (sources : List Source)
    (end : Result Shown Failure) → planned ≡ record machine { unplanned = planned.unplanned } →
    shows_jobs held host dir jobs planned planned.unplanned.items sources end →
    shows_jobs held host dir jobs machine planned.unplanned.items sources end
shown_as_planned held host dir jobs machine planned sources end same shown =
    subst (λ (m : Machine). shows_jobs held host dir jobs m planned.unplanned.items sources end) same shown

pub described_as_planned :
    (held : Held) (host : KnownHost) (dir : List ℕ) (describe : MachineDescribe) (machine planned : Machine) (sources : List Source)
    (end : Result Shown Failure) → planned ≡ record machine { unplanned = planned.unplanned } →
    shows_descriptions held host dir describe planned planned.unplanned.items sources end →
    shows_descriptions held host dir describe machine planned.unplanned.items sources end
described_as_planned held host dir describe machine planned sources end same shown =
    subst (λ (m : Machine). shows_descriptions held host dir describe m planned.unplanned.items sources end) same shown

pub checked_as_planned :
    (held : Held) (tree : KnownTree) (dir : List ℕ) (check : MachineCheck) (machine planned : Machine) (end : Result Shown Failure) →
    planned ≡ record machine { unplanned = planned.unplanned } →
    shows_findings held tree dir check planned planned.unplanned.items end →
    shows_findings held tree dir check machine planned.unplanned.items end
checked_as_planned held tree dir check machine planned end same shown =
    subst (λ (m : Machine). shows_findings held tree dir check m planned.unplanned.items end) same shown

-- standard error failed, which it doesn't if nothing is reported
pub told_off :
    (has : Bool) (reports : List ℕ) (result : Result (Unit {0}) WriteFault) (flag takes_all : Bool) (out old new : Option (List ℕ)) →
    flag ≡ is_err result → flag ≡ true → Puts takes_all result old new reports → (has ≡ false → result ≡ Ok tt) →
    (has ≡ true) × BreaksOff takes_all old new reports × (failed_status ≡ failed_status) × Keeps out out
told_off has reports (Ok done) flag takes_all out old new is set put spared = absurd cc
told_off true reports (Err fault) flag takes_all out old new is set off spared = (refl, off, refl, Keeps-refl out)
told_off false reports (Err fault) flag takes_all out old new is set off spared =
    let no_error : Err fault ≡ Ok tt = spared refl in absurd cc

-- standard error took what is reported
pub told :
    (reports : List ℕ) (result : Result (Unit {0}) WriteFault) (flag takes_all : Bool) (old new : Option (List ℕ)) →
    flag ≡ is_err result → flag ≡ false → Puts takes_all result old new reports → Appends old new reports
told reports (Ok done) flag takes_all old new is unset put = put
told reports (Err fault) flag takes_all old new is unset off = absurd cc

-- ---- an answer for jobs

-- an error stops a strict answer
pub rest_stopped :
    (stopped is_clear : Bool) (paths : List SourcePath) (errors : List Found) (answers : Step (Outcome × Option (List ℕ))) → stopped ≡ true →
    jobs_rest stopped is_clear paths errors answers (Ok (stops_at_first paths errors is_clear))
rest_stopped true is_clear paths errors answers is = refl
rest_stopped false is_clear paths errors answers is = absurd cc

-- without one there is a failure, or an answer
pub rest_failed :
    (stopped is_clear : Bool) (paths : List SourcePath) (errors : List Found) (answers : Step (Outcome × Option (List ℕ))) (failure : Failure) →
    stopped ≡ false → answers (Err failure) → jobs_rest stopped is_clear paths errors answers (Err failure)
rest_failed true is_clear paths errors answers failure is fails = absurd cc
rest_failed false is_clear paths errors answers failure is fails = stops failure fails refl

pub rest_planned :
    (stopped is_clear : Bool) (paths : List SourcePath) (errors : List Found) (answers : Step (Outcome × Option (List ℕ)))
    (answer : Outcome × Option (List ℕ)) → stopped ≡ false → answers (Ok answer) →
    jobs_rest stopped is_clear paths errors answers (Ok (plans answer.0 answer.1))
rest_planned true is_clear paths errors answers answer is made = absurd cc
rest_planned false is_clear paths errors answers answer is made = goes answer made refl

-- files that are lent are the same
pub lent_files :
    (files : Option (Vec JobFile Global)) (lent : Option (Bor (List JobFile))) →
    MatchOption files (lent ≡ None) (λ x. IsSomeAnd lent (λ y. (y.now ≡ x.items) × (length y.now ≡ vec_len x))) →
    option_map (λ (y : Bor (List JobFile)). y.now) lent ≡ option_map (λ (x : Vec JobFile Global). x.items) files
lent_files None lent none = ap (option_map (λ (y : Bor (List JobFile)). y.now)) none
lent_files (Some x) None is = absurd is
lent_files (Some x) (Some y) is = ap Some is.0

-- an error of the first of two checks is theirs
first_of :
    {A B : Type 0} (first : Result A RunFault) (next : A → Result B RunFault) (P : RunFault → Type 0) →
    IfErr (first >>= next) P → IfErr first P
first_of (Ok a) next P is = tt
first_of (Err fault) next P is = is

pub first_error : (goal : Goal) (P : RunFault → Type 0) → IfErr (checked_goal goal) P → IfErr (valid_goal goal) P
first_error goal P is = first_of (valid_goal goal) (λ valid. sized_goal goal) P is

-- what is said about an answer, and whether a start is found
pub said_parts :
    (goal : Goal) (kept : List JobParts) (made settled : Result RemarkedAnswer RunFault) →
    IfOk made (λ all. all.remark ≡ remark_of goal kept) → settles made (Ok settled) →
    (parted settled).1.remark ≡ said_of (parted settled).0 (remark_of goal kept)
said_parts goal kept made (Ok all) remark same = subst (λ r. IfOk r (λ a. a.remark ≡ remark_of goal kept)) same remark
said_parts goal kept made (Err fault) remark same = refl

-- the same is said about the same answer
pub remark_same :
    (goal : Goal) (is_answer other_is : Bool) (remark other_remark : Option (List ℕ)) (status other_status unknown : ℕ)
    (said : Option (List ℕ)) →
    said ≡ remark_with goal is_answer status remark unknown → is_answer ≡ other_is → remark ≡ other_remark → status ≡ other_status →
    said ≡ remark_with goal other_is other_status other_remark unknown
remark_same goal is_answer other_is remark other_remark status other_status unknown said found same_is same_remark same_status =
    subst (λ (s : ℕ). said ≡ remark_with goal other_is s other_remark unknown) same_status
    (subst (λ (r : Option (List ℕ)). said ≡ remark_with goal other_is status r unknown) same_remark
    (subst (λ (b : Bool). said ≡ remark_with goal b status remark unknown) same_is found))

-- the same is left of the same
pub left_same :
    (r r' : List ℕ) (machine : Machine) (unplanned : List NotPlanned) (ps ps' : List SourcePath) (es es' : List Found)
    (is_zone_unknown : Bool) (a a' p p' : List JobParts) (ns ns' os os' : List (List ℕ)) (end : Result Left Failure) → r ≡ r' → ps ≡ ps' →
    es ≡ es' → a ≡ a' → p ≡ p' → ns ≡ ns' → os ≡ os' → left_in r machine unplanned ps es is_zone_unknown a p ns os end →
    left_in r' machine unplanned ps' es' is_zone_unknown a' p' ns' os' end
left_same r r' machine unplanned ps ps' es es' is_zone_unknown a a' p p' ns ns' os os' end on_r on_ps on_es on_a on_p on_ns on_os is =
    let ends : List ℕ → List SourcePath → List Found → List JobParts → List JobParts → List (List ℕ) → List (List ℕ) → Type 0 =
    λ r ps es a p ns os. left_in r machine unplanned ps es is_zone_unknown a p ns os end in
    subst (λ (os : List (List ℕ)). ends r' ps' es' a' p' ns' os) on_os
    (subst (λ (ns : List (List ℕ)). ends r' ps' es' a' p' ns os) on_ns
    (subst (λ (p : List JobParts). ends r' ps' es' a' p ns os) on_p
    (subst (λ (a : List JobParts). ends r' ps' es' a p ns os) on_a
    (subst (λ (es : List Found). ends r' ps' es a p ns os) on_es
    (subst (λ (ps : List SourcePath). ends r' ps es a p ns os) on_ps
    (subst (λ (r : List ℕ). ends r ps es a p ns os) on_r is))))))
