-- What a proof unfolds to compute with the command lines of `agenda` and of `agenda machine`, in addition to clap's
-- `clap_on_literals`.
use Rattle.std.specs.Prelude.{⊤}
use Rattle.agenda_options.specs.Command.{agenda, changes, check, clear, describe, downtime, explain, next, plan, quiet, steps, upcoming, week}
use Rattle.agenda_options.specs.Command.{machine, machine_changes, machine_check, machine_clear, machine_describe, machine_downtime, machine_listed, machine_next}
use Rattle.agenda_options.specs.Command.{machine_plan, machine_quiet, machine_scripts, machine_sources, machine_upcoming, machine_week}
use Rattle.agenda_options.specs.Command.{with_format, with_jobs, with_machine, with_machine_span, with_machine_times, with_sizes, with_sources, with_span, with_window, with_zones}
use Rattle.agenda_arguments.specs.Arguments.{asked_by_agenda, asked_by_clear, plan_in}
use Rattle.agenda_arguments.specs.Machine.{asked_by_machine}

unfoldable pub agenda_on_literals : ⊤
unfolding agenda next plan upcoming quiet downtime clear week check describe machine_listed steps explain with_zones with_format with_span
    with_jobs with_sources with_sizes with_window machine machine_upcoming machine_plan machine_quiet machine_downtime machine_clear machine_changes changes
    machine_week machine_scripts machine_check machine_sources machine_next machine_describe with_machine with_machine_span with_machine_times
    plan_in asked_by_clear asked_by_agenda asked_by_machine
agenda_on_literals = tt
