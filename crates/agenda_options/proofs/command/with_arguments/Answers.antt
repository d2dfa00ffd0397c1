-- Each turn adds the next argument.
use Rattle.std.proofs.Common.{◌≡◌, ◌<◌, ◌+◌, ◌∙◌, ℕ, List, arith, drop, length, map, refl, slice_index_or}
use Rattle.std.proofs.lemmas.List.{drop_more}
use Rattle.clap.specs.Words.{App, Rule, app_of, rule_of, with_rule}
use Rattle.agenda_options.specs.declared.command.CommandOption.{CommandOption}
use Rattle.agenda_options.specs.Command.{rule_for, with_each}
use Rattle.agenda_options.proofs.command.with_arguments.Goals as goal

one_more :
    (app next : App) (rule : Rule) (options : List CommandOption) (index : ℕ) (other : CommandOption) → index < length options →
    next ≡ with_rule app rule → rule ≡ rule_for (slice_index_or options index other) →
    with_each next (map rule_for (drop (index + 1) options)) ≡ with_each app (map rule_for (drop index options))
one_more app next rule options index other within is known = rw (is, known, drop_more options index other within) refl

pub loop-argument-preserved : goal.loop-argument-preserved
loop-argument-preserved c = record {
  left = one_more (app_of c.loop-argument.command) (app_of c.in_ok-command.command) (rule_of c.to_clap.result) c.args.arguments.now
      c.loop-argument.argument-index _ (omega arith) c.in_ok-command.ensures.app c.to_clap.ensures.rule
      ∙ c.loop-argument.invariant.left;
  local = c.in_ok-command.ensures.local;
}
