-- If sources of a kind may be given any number of times, the action of their argument is set.
use Rattle.std.proofs.Common.{◌≡◌, ◌∙◌, ap, sym, Some, false}
use Rattle.clap.specs.Words.{Rule, rule_of}
use Rattle.clap.specs.declared.builder.action.ArgAction.TheVariants.{Append}
use Rattle.clap.specs.declared.builder.arg.Arg.{Arg}
use Rattle.agenda_options.specs.Command.{path_rule, with_count}
use Rattle.agenda_options.proofs.command.source_argument.Goals as goal

-- the action of an argument of a known rule is set
many_times :
    (new old : Arg) (known : Rule) → new ≡ record old { action = Some Append } → rule_of old ≡ known →
    rule_of new ≡ record known { action = Some Append }
many_times new old known set is = ap rule_of set ∙ ap (λ (r : Rule). record r { action = Some Append }) is

-- that doesn't make it global
own : (new old : Arg) → new ≡ record old { action = Some Append } → old.global ≡ false → new.global ≡ false
own new old set is = ap (λ (a : Arg). a.global) set ∙ is

pub returns-then-is_many-clause-rule : goal.returns-then-is_many-clause-rule
returns-then-is_many-clause-rule c =
    many_times c.action.result c.path_argument-path.result _ c.action.ensures c.path_argument-path.ensures.rule
    ∙ ap (λ many. with_count many (path_rule c.args.kind)) (sym c.if-is_many.true ∙ c.is_many.ensures)

pub returns-then-is_many-clause-local : goal.returns-then-is_many-clause-local
returns-then-is_many-clause-local c =
    own c.action.result c.path_argument-path.result c.action.ensures c.path_argument-path.ensures.local

pub returns-else-is_many-clause-rule : goal.returns-else-is_many-clause-rule
returns-else-is_many-clause-rule c =
    c.path_argument-path.ensures.rule
    ∙ ap (λ many. with_count many (path_rule c.args.kind)) (sym c.if-is_many.false ∙ c.is_many.ensures)
