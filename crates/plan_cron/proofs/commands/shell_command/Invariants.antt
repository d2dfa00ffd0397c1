use Rattle.std.proofs.Common.{◌≡◌, ◌++◌, false, drop}
use Rattle.plan_cron.specs.Commands.{given_from}
use Rattle.plan_cron.proofs.commands.shell_command.Given as goal

-- what was given so far, with what is given of the bytes that are left, is all
abbrev pub invariant-loop-byte : goal.invariant-loop-byte
invariant-loop-byte l =
    l.given.items ++ given_from l.escaped (drop l.byte-index l.command) ≡ given_from false l.command
