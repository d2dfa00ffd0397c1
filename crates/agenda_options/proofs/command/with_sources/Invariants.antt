use Rattle.std.proofs.Common.{◌≡◌, false, drop, map}
use Rattle.clap.specs.Words.{app_of}
use Rattle.clap.specs.declared.builder.command.Command.TheViews.{out-Command}
use Rattle.plan_rules.specs.SourceKind.{kinds}
use Rattle.agenda_options.specs.Command.{source_rule, with_each, with_sources}
use Rattle.agenda_options.proofs.command.with_sources.Given as goal

-- the command so far, with the arguments for the remaining kinds added, is the command with those for all kinds
abbrev pub invariant-loop-kind : goal.invariant-loop-kind
invariant-loop-kind l = record {
  left : with_each (app_of l.command) (map source_rule (drop l.kind-index kinds)) ≡ with_sources (app_of l.fn.command);
  local : (out-Command l.command).has_globals ≡ false;
}
