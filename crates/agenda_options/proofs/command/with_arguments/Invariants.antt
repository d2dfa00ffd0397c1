use Rattle.std.proofs.Common.{◌≡◌, false, drop, map}
use Rattle.clap.specs.Words.{app_of}
use Rattle.clap.specs.declared.builder.command.Command.TheViews.{out-Command}
use Rattle.agenda_options.specs.Command.{rule_for, with_each}
use Rattle.agenda_options.proofs.command.with_arguments.Given as goal

-- the command so far, with the remaining arguments added, is the command with all of them
abbrev pub invariant-loop-argument : goal.invariant-loop-argument
invariant-loop-argument l = record {
  left : with_each (app_of l.command) (map rule_for (drop l.argument-index l.arguments))
      ≡ with_each (app_of l.fn.command) (map rule_for l.arguments);
  local : (out-Command l.command).has_globals ≡ false;
}
