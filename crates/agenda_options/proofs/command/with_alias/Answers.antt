use Rattle.std.proofs.Common.{◌≡◌, ◌∙◌, ◌++◌, ◌∷◌, [], ℕ, Bool, true, List, ap, map}
use Rattle.std.proofs.lemmas.List.{map-append}
use Rattle.std.proofs.lemmas.Result.{IfOk-weaker}
use Rattle.std.specs.Borrow.{Bor}
use Rattle.clap.specs.Adds.{AddsAliases}
use Rattle.clap.specs.Words.{rule_of}
use Rattle.clap.specs.declared.builder.arg.Arg.{Arg}
use Rattle.agenda_options.specs.Command.{with_alias}
use Rattle.agenda_options.proofs.command.with_alias.Goals as goal

abbrev names_of : List (Bor (List ℕ) × Bool) → List (List ℕ)
names_of aliases = map (λ alias. alias.0.now) aliases

one_more :
    (old new : Arg) (name : Bor (List ℕ)) → AddsAliases old new ((name, true) ∷ []) → rule_of new ≡ with_alias (rule_of old) name.now
one_more old new name added =
    let names : names_of new.aliases.items ≡ names_of old.aliases.items ++ name.now ∷ [] =
    ap names_of added.1 ∙ map-append (λ (alias : Bor (List ℕ) × Bool). alias.0.now) old.aliases.items ((name, true) ∷ []) in
    ap rule_of added.0 ∙ ap (λ (l : List (List ℕ)). record (rule_of old) { aliases = l }) names

pub returns-clause-rule : goal.returns-clause-rule
returns-clause-rule c =
    IfOk-weaker c.visible_alias.result _ _ (λ new added. one_more c.args.option new c.args.name added) c.visible_alias.ensures

pub returns-clause-local : goal.returns-clause-local
returns-clause-local c =
    IfOk-weaker c.visible_alias.result _ _ (λ new added. ap (λ (a : Arg). a.global) added.0) c.visible_alias.ensures
