use Rattle.std.proofs.Common.{◌++◌, append_assoc, arith, codes, string_bytes}
use Rattle.std.proofs.lemmas.Grind.{common_steps}
use Rattle.plan_write.specs.Shown.{shown}
use Rattle.agenda_machine.proofs.ShownLemmas.{shown_below}
use Rattle.agenda_machine.proofs.paths.push_path.Goals as goal

pub returns : goal.returns
returns c =
    let is = shown_below c.args.root.now c.args.path.now c.utf8.root in
    let old = string_bytes c.args.whole.now in
    let root = shown c.args.root.now in
    let path = shown c.args.path.now in
    let one = append_assoc (old ++ root) (codes "/") path in
    let two = append_assoc old root (codes "/" ++ path) in
    grind (arith, common_steps)
