-- The name of the option or argument is that of the kind.
use Rattle.std.proofs.Common.{◌≡◌, ◌∙◌, ap, sym, refl}
use Rattle.plan_rules.specs.SourceKind.{option_of}
use Rattle.plan_rules.specs.declared.SourceKind.{SourceKind}
use Rattle.plan_rules.specs.declared.SourceKind.TheVariants.{Timer}
use Rattle.agenda_options.specs.Command.{argument_named, option_named, path_rule}
use Rattle.agenda_options.proofs.command.path_argument.Goals as goal

-- sources of any kind but timers are given by options
by_option : (kind : SourceKind) → (kind ≡ Timer → ⊥) → path_rule kind ≡ option_named (option_of kind)
by_option Timer not = absurd (not refl)
by_option other not = refl

pub returns-in-Timer-clause-rule : goal.returns-in-Timer-clause-rule
returns-in-Timer-clause-rule c =
    c.argument.ensures.rule ∙ ap argument_named c.option-name.ensures
    ∙ ap (λ kind. argument_named (option_of kind)) c.in-Timer.is ∙ sym (ap path_rule c.in-Timer.is)

pub returns-in_default-clause-rule : goal.returns-in_default-clause-rule
returns-in_default-clause-rule c =
    c.text_option.ensures.rule ∙ ap option_named c.option-name.ensures ∙ sym (by_option c.args.kind c.in_default.not-Timer)
