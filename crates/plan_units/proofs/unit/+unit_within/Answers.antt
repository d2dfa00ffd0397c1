-- The unit of a name is that of its file, or that of the name for which the file is an alias.
use Rattle.std.proofs.Common.{◌≡◌, ◌-◌, ap, sym, ◌∙◌}
use Rattle.std.proofs.lemmas.Result.{IfOk-weaker}
use Rattle.plan_units.specs.Unit.{unit_within}
use Rattle.plan_units.specs.UnitFile.{file_of_unit}
use Rattle.plan_units.specs.UnitNames.{named_for}
use Rattle.plan_units.proofs.UnitLemmas.{within_alias, within_file, within_none, within_some}
use Rattle.plan_units.proofs.unit.+unit_within.Goals as goal

pub returns-then-names-eq0 : goal.returns-then-names-eq0
returns-then-names-eq0 g t c = λ known.
    within_none (g.T.Tree.held c.args.tree.now).node c.args.dirs.now c.args.names c.args.name c.if-names-eq0.true

pub returns-in_default : goal.returns-in_default
returns-in_default g t c = λ known.
    let node = (g.T.Tree.held c.args.tree.now).node in
    let found = sym c.in_default.is ∙ c.in_ok-file.ensures known ∙ ap (file_of_unit node c.args.dirs.now) c.as_str.ensures in
    within_some node c.args.dirs.now c.args.names c.args.name _ c.if-names-eq0.false found

pub returns-in-None : goal.returns-in-None
returns-in-None g t c = λ known.
    let node = (g.T.Tree.held c.args.tree.now).node in
    let found = sym c.in-Some.is ∙ c.in_ok-file.ensures known ∙ ap (file_of_unit node c.args.dirs.now) c.as_str.ensures in
    within_file node c.args.dirs.now c.args.names c.args.name c.in-Some.file c.if-names-eq0.false found c.in-None.is

pub returns-in_ok-other-in-Some-alias : goal.returns-in_ok-other-in-Some-alias
returns-in_ok-other-in-Some-alias g t c = λ known.
    let node = (g.T.Tree.held c.args.tree.now).node in
    let dirs = c.args.dirs.now in
    let names = c.args.names in
    let name = c.args.name in
    let found = sym c.in-Some.is ∙ c.in_ok-file.ensures known ∙ ap (file_of_unit node dirs) c.as_str.ensures in
    let other = c.in_ok-other-in-Some-alias.ensures
    ∙ ap (λ n. named_for n c.as_str-in-Some-alias-2.result.now) c.as_str-in-Some-alias.ensures
    ∙ ap (named_for name) c.as_str-in-Some-alias-2.ensures in
    let whole = ap (unit_within node dirs (names - 1)) other
    ∙ within_alias node dirs names name _ c.in-Some.file c.if-names-eq0.false found c.in-Some-alias.is in
    IfOk-weaker c.unit_within.result (λ unit. unit ≡ unit_within node dirs (names - 1) c.in_ok-other-in-Some-alias.other)
    (λ unit. unit ≡ unit_within node dirs names name) (λ unit this. this ∙ whole) (c.unit_within.ensures known)
