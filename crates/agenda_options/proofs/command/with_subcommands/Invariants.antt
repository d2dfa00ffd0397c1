use Rattle.std.proofs.Common.{◌≡◌, drop}
use Rattle.clap.specs.Words.{app_of}
use Rattle.agenda_options.specs.Command.{with_subcommands}
use Rattle.agenda_options.proofs.command.with_subcommands.Given as goal

-- the command so far, with the remaining subcommands added, is the command with all of them
abbrev pub invariant-loop-subcommand : goal.invariant-loop-subcommand
invariant-loop-subcommand l =
    with_subcommands (app_of l.command) (drop l.subcommand-index l.subcommands) ≡ with_subcommands (app_of l.fn.command) l.subcommands
