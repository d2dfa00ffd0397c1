use Rattle.std.proofs.Common.{◌≡◌, ap, subst, IfOk}
use Rattle.plan_idle.specs.declared.answer.Answer.{Answer}
use Rattle.plan_idle.specs.Answers.{booted_by}
use Rattle.plan_idle.proofs.files.booted_answer.Goals as goal

pub returns : goal.returns
returns g c = λ known.
    let held = g.T.Tree.held c.args.tree.now in
    subst (λ (is : Answer). IfOk c.booted_by.result (λ answer. answer ≡ is))
    (ap (booted_by held c.args.property) (c.in_ok-end.ensures known)) (c.booted_by.ensures known)
