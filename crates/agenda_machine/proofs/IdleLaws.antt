-- The sources of a machine without its idle jobs, by the law of a crontab, and the jobs of these sources.
use Rattle.std.proofs.Common.{◌≡◌, ℕ, Bool, true, false, not, cond, List, [], ◌∷◌, filter, map, Option, Some, Ok, refl, ap, sym, subst, ◌∙◌, map-id, true≢false}
use Rattle.std.specs.List.{flat_map}
use Rattle.plan_check.specs.Known.{no_jobs}
use Rattle.plan_clock.specs.declared.row.Change.{Change}
use Rattle.plan_rules.specs.declared.Kind.{Kind}
use Rattle.plan_rules.specs.Crontab.{entries_of_lines}
use Rattle.plan_rules.specs.FileText.{text_reading}
use Rattle.plan_rules.specs.Job.{JobParts}
use Rattle.plan_rules.specs.Jobs.{is_other, without}
use Rattle.plan_rules.specs.LineFaults.{TextReading}
use Rattle.plan_rules.specs.Zone.{job_in, jobs_in}
use Rattle.plan_runs.proofs.IdleLemmas.{idle_jobs_are_left_out}
use Rattle.plan_runs.specs.Idle.{active_crontab, is_active}
use Rattle.plan_runs.specs.Texts.{KnownActive}
use Rattle.plan_texts.specs.Lines.{lines}
use Rattle.plan_tree.specs.Tree.{Held}
use Rattle.agenda_sources.specs.Findings.{after_sources, kept_jobs, sources_findings}
use Rattle.agenda_sources.specs.Sources.{zoned}
use Rattle.agenda_sources.specs.declared.Source.{Source}
use Rattle.agenda_sources.specs.declared.TimeZones.{TimeZones}
use Rattle.agenda_machine.specs.Idle.{whose_crontab, without_idle}
use Rattle.agenda_machine.specs.IdleJobs.{IdleJobsAreExcepted, are_all_added, idle_names}
use Rattle.agenda_machine.specs.Loaded.{HasOtherEntries, IdleJobsOfMachineAreLeftOut, kept_source, planned_sources}
use Rattle.agenda_machine.proofs.ActiveLemmas.{active, active_fit, active_of_all, kept_run}
use Rattle.agenda_machine.proofs.AddedLemmas.{Fits, file_run, is_good, jobs_of, source_adds, sources_fit, sources_run}
use Rattle.agenda_machine.proofs.IdleNameLemmas.{idle_in, names_are, other_by_names, without_names}

-- a text has the entries of the other jobs
abbrev HasOthers : Kind → (label text : List ℕ) → KnownActive → Type 0
HasOthers kind label text active =
    entries_of_lines label kind (lines active.text)
    ≡ filter (λ entry. is_active active.idle entry) (entries_of_lines label kind (lines text))

of_source :
    (held : Held) (kind : Kind) (source : Source) (label : List ℕ) → whose_crontab source.kind ≡ Some kind →
    text_reading source.bytes ≡ Ok source.bytes → HasOtherEntries held kind source label
of_source held kind source label is_crontab is_text =
    let text = source.bytes in
    let P : TextReading (List ℕ) → Type 0 = λ reading. HasOthers kind label text (active_crontab held kind source.name text reading) in
    let Q : Option Kind → Type 0 = λ whose. HasOthers kind label text (without_idle held whose source.name text) in
    subst Q (sym is_crontab) (subst P (sym is_text) (idle_jobs_are_left_out held kind source.name label text))

pub idle_jobs_of_machine_are_left_out : IdleJobsOfMachineAreLeftOut
idle_jobs_of_machine_are_left_out held machine = (refl, of_source held)

-- ---- the jobs

left_by :
    (is : Bool) (clock : List Change) (job : JobParts) (more left : List JobParts) → jobs_in clock more ≡ left →
    jobs_in clock (cond is (job ∷ more) more) ≡ cond is (job_in clock job ∷ left) left
left_by true clock job more left same = ap (λ (jobs : List JobParts). job_in clock job ∷ jobs) same
left_by false clock job more left same = same

jobs_without :
    (names : List (List ℕ)) (clock : List Change) (jobs : List JobParts) →
    jobs_in clock (without names jobs) ≡ without names (jobs_in clock jobs)
jobs_without names clock [] = refl
jobs_without names clock (job ∷ more) =
    left_by (is_other names job) clock job (without names more) (without names (jobs_in clock more)) (jobs_without names clock more)

-- a zone changes no name
zoned_without :
    (names : List (List ℕ)) (clock : List Change) (jobs : List JobParts) →
    zoned clock (without names jobs) ≡ without names (zoned clock jobs)
zoned_without names [] jobs = refl
zoned_without names (first ∷ more) jobs = jobs_without names (first ∷ more) jobs

untrue : (b : Bool) → not b ≡ true → b ≡ false
untrue true is = absurd (true≢false (sym is))
untrue false is = refl

of_sources :
    (held : Held) (zones : TimeZones) (all : List Source) → are_all_added (sources_findings zones all) ≡ true →
    kept_jobs zones (map (kept_source held false) all) ≡ without (idle_names held all) (kept_jobs zones all)
of_sources held zones all added =
    let context = zones.timers in
    let known = no_jobs (Some zones.clock) in
    let adds = flat_map (source_adds context held) all in
    let fits = sources_fit context held 0 known all refl (untrue _ added) in
    let as_all : (after_sources context known all).jobs ≡ jobs_of adds =
    ap (λ (sources : List Source). (after_sources context known sources).jobs) (sym (map-id all))
    ∙ sources_run context (λ source. source) (source_adds context held) is_good (file_run context held) known all fits in
    let others = active_of_all (source_adds context held) all in
    let as_left : (after_sources context known (map (kept_source held false) all)).jobs ≡ jobs_of (active adds) =
    sources_run context (kept_source held false) (λ source. active (source_adds context held source)) is_good (kept_run context held)
    known all (subst (Fits [] []) (sym others) (active_fit [] [] adds fits)) ∙ ap jobs_of others in
    let left : jobs_of (active adds) ≡ without (idle_names held all) (jobs_of adds) =
    sym (without_names [] [] [] adds (λ name none. refl) fits)
    ∙ sym (other_by_names (idle_names held all) (idle_in adds) (jobs_of adds) (names_are context held all)) in
    ap (zoned zones.clock) (as_left ∙ left ∙ ap (without (idle_names held all)) (sym as_all))
    ∙ zoned_without (idle_names held all) zones.clock (after_sources context known all).jobs

pub idle_jobs_are_excepted : IdleJobsAreExcepted
idle_jobs_are_excepted held machine zones added = of_sources held zones (planned_sources held true machine) added
