-- A link counts by where its text leads.
use Rattle.std.proofs.Common.{◌≡◌, ap, sym, ◌∙◌}
use Rattle.std.proofs.lemmas.Result.{IfOk-weaker}
use Rattle.plan_tree.specs.Place.{child}
use Rattle.plan_units.specs.UnitFile.{file_by, file_by_lead, lead}
use Rattle.plan_units.proofs.UnitLemmas.{linked_file}
use Rattle.plan_units.proofs.file.file_in.Goals as goal

pub returns-in-Link : goal.returns-in-Link
returns-in-Link g c = λ known.
    let node = (g.T.Tree.held c.args.tree.now).node in
    let dirs = c.args.dirs.now in
    let dir = c.args.dir.now in
    let name = c.args.name.now in
    let is = sym (ap node (c.as_str.ensures ∙ c.in_ok-real.ensures)) ∙ sym (c.in_ok-node.ensures known) ∙ c.in-Link.is in
    let leads = c.as_str-in-Link-3.ensures ∙ c.in_ok-to-in-Link.ensures
    ∙ ap (λ path. lead path c.as_str-in-Link-2.result.now) c.as_str-in-Link.ensures ∙ ap (lead dir.path) c.as_str-in-Link-2.ensures in
    let whole = linked_file dirs dir name c.in-Link.text c.as_str-in-Link-3.result.now (node (child dir.real name)) is leads in
    IfOk-weaker c.file_by_lead.result (λ file. file ≡ file_by_lead dirs dir name c.as_str-in-Link-3.result.now)
    (λ file. file ≡ file_by (node (child dir.real name)) dirs dir name) (λ file this. this ∙ whole) c.file_by_lead.ensures
