-- Enough bytes are read to know the first ones.
use Rattle.std.proofs.Common.{◌≡◌, ◌≤◌, ◌<◌, Some, ap, sym, ◌∙◌, arith, rules}
use Rattle.std.specs.Option.{option_map}
use Rattle.plan_users.proofs.UserTreeLemmas.{file_enough}
use Rattle.plan_users.proofs.user_tree.UserTreeTree.front.Goals as goal

pub returns-in_ok-front_read-in-Some : goal.returns-in_ok-front_read-in-Some
returns-in_ok-front_read-in-Some g c = λ known.
    let enough = c.max-enough.result in
    let more : c.args.most ≤ enough = omega (arith, c.max-enough.ensures) in
    let long : 1048576 < enough = omega (arith, c.max-enough.ensures) in
    let held = g.T.Tree.held c.args.self.now.tree.now in
    ap Some c.in_ok-front_read-in-Some.ensures
    ∙ file_enough c.args.self.now.manager.now c.args.most enough c.in-Some.bytes.items (held.bytes c.args.path.now) more long
    (ap (option_map (λ read. read.items)) (sym c.in-Some.is) ∙ c.in_ok-bytes.ensures known)
