use Rattle.std.proofs.Common.{◌∙◌, arith}
use Rattle.std.proofs.lemmas.Str.Pattern.{strip_suffix_char}
use Rattle.agenda_machine.proofs.RootLemmas.{root_after, root_alone}
use Rattle.agenda_machine.proofs.root.+root_of.Goals as goal

pub returns-in-Some : goal.returns-in-Some
returns-in-Some t c =
    let cut = strip_suffix_char 47 c.args.dir.now c.strip_suffix.result c.strip_suffix.ensures.cases (search arith) in
    c.root_of.ensures ∙ root_after c.args.dir.now c.in-Some.front.now (rw c.in-Some.is at cut)

pub returns-in-None : goal.returns-in-None
returns-in-None t c =
    let cut = strip_suffix_char 47 c.args.dir.now c.strip_suffix.result c.strip_suffix.ensures.cases (search arith) in
    root_alone c.args.dir.now (rw c.in-None.is at cut)
