-- What is loaded of sources, and the idle jobs in it that aren't planned.
use Rattle.std.proofs.Common.{◌≡◌, Bool, true, false, List, [], ◌∷◌, ◌++◌, map, Option, None, Some, refl, ap, ◌∙◌, append-nil}
use Rattle.std.specs.List.{cons_option, flat_map}
use Rattle.std.specs.Prelude.{ℕ, option_map}
use Rattle.agenda_sources.specs.declared.Source.{Source}
use Rattle.agenda_machine.specs.Idle.{idle_reports}
use Rattle.agenda_machine.specs.Loaded.{idle_of, kept_source, loaded_sources, planned_sources, unplanned_jobs, unplanned_with_idle}
use Rattle.plan_loads.specs.Loading.{loading_of}
use Rattle.plan_machine.specs.Source.{SourceParts}
use Rattle.plan_machine.specs.declared.CronDaemon.{CronDaemon}
use Rattle.plan_machine.specs.declared.NotPlanned.{NotPlanned}
use Rattle.plan_machine.specs.declared.machine.Machine.{Machine}
use Rattle.plan_tree.specs.Tree.{Held}

-- what one source adds comes before what the others add
pub kept_then :
    (f : Source → Source) (source : Option Source) (more : List Source) →
    map f (cons_option source more) ≡ cons_option (option_map f source) [] ++ map f more
kept_then f None more = refl
kept_then f (Some source) more = refl

-- with idle jobs all is planned that is loaded
all_kept : (held : Held) (sources : List Source) → map (kept_source held true) sources ≡ sources
all_kept held [] = refl
all_kept held (source ∷ more) = ap (λ rest. source ∷ rest) (all_kept held more)

pub planned_are :
    (held : Held) (idle : Bool) (machine : Machine) →
    map (kept_source held idle) (loaded_sources machine) ≡ planned_sources held idle machine
planned_are held true machine = all_kept held (loaded_sources machine)
planned_are held false machine = refl

-- and none is reported
none_of : (held : Held) (source : SourceParts) (text : Option (List ℕ)) → idle_reports held true source text ≡ []
none_of held source None = refl
none_of held source (Some text) = refl

none_reported :
    (held : Held) (unplanned : List NotPlanned) (daemon : CronDaemon) (sources : List SourceParts) →
    flat_map (idle_of held true unplanned daemon) sources ≡ []
none_reported held unplanned daemon [] = refl
none_reported held unplanned daemon (source ∷ more) =
    ap (λ first. first ++ flat_map (idle_of held true unplanned daemon) more)
    (none_of held source (loading_of unplanned daemon source.kind source.parts).text)
    ∙ none_reported held unplanned daemon more

pub unplanned_are :
    (held : Held) (idle : Bool) (machine : Machine) →
    unplanned_jobs held machine ++ flat_map (idle_of held idle machine.unplanned.items machine.cron_daemon) machine.sources.items
    ≡ unplanned_with_idle held idle machine
unplanned_are held true machine =
    ap (λ jobs. unplanned_jobs held machine ++ jobs) (none_reported held machine.unplanned.items machine.cron_daemon machine.sources.items)
    ∙ append-nil (unplanned_jobs held machine)
unplanned_are held false machine = refl
