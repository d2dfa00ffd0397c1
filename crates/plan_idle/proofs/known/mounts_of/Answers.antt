use Rattle.std.proofs.Common.{◌≡◌, ◌∙◌, ap, cond, sym, subst, Bool, IfOk, List, [], ℕ}
use Rattle.plan_idle.specs.Known.{begins_with_digit, lead_of, mounts_by, runs}
use Rattle.std.proofs.Common.{codes, false}
use Rattle.plan_idle.proofs.known.mounts_of.Goals as goal

pub returns : goal.returns
returns g c = λ known.
    let held = g.T.Tree.held c.args.tree.now in
    let off : runs held ≡ false =
    ap begins_with_digit (sym (c.in_ok-uptime.ensures known)) ∙ sym c.begins_with_digit.ensures ∙ c.if-begins_with_digit.false in
    subst (λ (ms : List (List ℕ)). IfOk c.mounts_by.result (λ mounts. mounts.items ≡ ms))
    (ap (mounts_by held) (c.in_ok-end.ensures known)
    ∙ sym (ap (λ (b : Bool). cond b [] (mounts_by held (lead_of held.node (codes "etc/fstab")))) off))
    (c.mounts_by.ensures known)
