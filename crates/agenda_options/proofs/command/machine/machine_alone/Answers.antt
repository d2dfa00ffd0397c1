-- Each call sets one field of the command. The description of the command has that field too, or is as before.
use Rattle.std.proofs.Common.{◌∙◌, ap, true}
use Rattle.std.proofs.lemmas.Result.{IfOk-weaker}
use Rattle.clap.specs.Simple.{Shape, app_of_fields, on_top}
use Rattle.agenda_options.proofs.command.machine.machine_alone.Goals as goal

pub returns : goal.returns
returns c =
    let helped = ap app_of_fields c.override_usage.ensures
    ∙ (ap app_of_fields c.after_help.ensures ∙ (ap app_of_fields c.about.ensures ∙ c.new.ensures.app)) in
    let required = ap app_of_fields c.subcommand_required.ensures
    ∙ ap (on_top (λ (s : Shape). record s { subcommand_required = true })) helped in
    let alone = ap app_of_fields c.disable_help_subcommand.ensures
    ∙ ap (on_top (λ (s : Shape). record s { disable_help_subcommand = true })) required in
    IfOk-weaker c.bin_name.result _ _ (λ new set. ap app_of_fields set.0 ∙ alone) c.bin_name.ensures
