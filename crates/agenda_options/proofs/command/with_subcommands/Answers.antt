-- Each turn adds the next subcommand.
use Rattle.std.proofs.Common.{◌≡◌, ◌<◌, ◌+◌, ◌∙◌, ℕ, List, ap, arith, drop, length, refl, slice_index_or}
use Rattle.std.proofs.lemmas.List.{drop_more}
use Rattle.clap.specs.Words.{App, app_of, with_subcommand}
use Rattle.agenda_options.specs.declared.command.subcommands.Subcommand.{Subcommand}
use Rattle.agenda_options.specs.Command.{app_for, with_subcommands}
use Rattle.agenda_options.proofs.command.with_subcommands.Goals as goal

one_more :
    (app next : App) (items : List Subcommand) (index : ℕ) (other : Subcommand) → index < length items →
    next ≡ with_subcommand app (app_for (slice_index_or items index other)).top →
    with_subcommands next (drop (index + 1) items) ≡ with_subcommands app (drop index items)
one_more app next items index other within is = rw (is, drop_more items index other within) refl

pub loop-subcommand-preserved : goal.loop-subcommand-preserved
loop-subcommand-preserved c =
    let before = app_of c.loop-subcommand.command in
    let next = c.in_ok-command.ensures.shape c.in_ok-added.ensures.local
    ∙ ap (λ (added : App). with_subcommand before added.top) c.in_ok-added.ensures.app in
    one_more before (app_of c.in_ok-command.command) c.args.subcommands.now c.loop-subcommand.subcommand-index _ (omega arith) next
    ∙ c.loop-subcommand.invariant
