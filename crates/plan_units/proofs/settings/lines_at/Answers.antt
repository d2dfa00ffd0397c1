-- The front of the file suffices.
use Rattle.std.proofs.Common.{◌≡◌, ◌∙◌, map}
use Rattle.std.proofs.lemmas.Result.{IfOk-weaker}
use Rattle.std.specs.Option.{option_map}
use Rattle.plan_texts.specs.WholeLines.{whole_text}
use Rattle.plan_tree.specs.Contents.{contents_of}
use Rattle.plan_units.specs.Settings.{lines_at, lines_of_found}
use Rattle.plan_units.proofs.TextLemmas.{front_of_found}
use Rattle.plan_units.proofs.settings.lines_at.Goals as goal

pub returns : goal.returns
returns g c = λ known.
    let held = g.T.Tree.held c.args.tree.now in
    let path = c.args.path.now in
    let found = option_map (λ text. text.items) c.in_ok-found.found in
    IfOk-weaker c.lines_of_found.result (λ lines. map whole_text lines.items ≡ lines_of_found found)
    (λ lines. map whole_text lines.items ≡ lines_at held path)
    (λ lines is. is ∙ front_of_found found (contents_of held path) (c.in_ok-found.ensures known)) c.lines_of_found.ensures
