use Rattle.std.proofs.Common.{◌∙◌, ap, sym, [], List}
use Rattle.plan_shell.specs.declared.step.Step.{Step}
use Rattle.plan_shell.specs.Tree.{tree_of}
use Rattle.plan_idle.specs.declared.outcomes.Outcomes.{Outcomes}
use Rattle.plan_idle.specs.Gathered.{Gathered, top_gathered, weighed_all}
use Rattle.plan_idle.proofs.RunLemmas.{idle_runs_nothing, outcomes_weighed}
use Rattle.plan_idle.proofs.idle.idle_reason.Goals as goal

pub returns-clause-idle : goal.returns-clause-idle
returns-clause-idle g c = λ known values.
    let looks = g.L.Look.looks c.args.looks.now in
    idle_runs_nothing looks values (tree_of c.args.list.now)
    (ap (λ (o : Outcomes). o.may_act) (outcomes_weighed looks c.args.list.now
    ∙ ap (λ (steps : List Step). (top_gathered (weighed_all looks steps [])).outcomes) (sym c.steps.ensures)
    ∙ ap (λ (g : Gathered). g.outcomes) (sym (c.in_ok-gathered.ensures known)))
    ∙ ap (λ (g : Gathered). g.outcomes.may_act) (sym c.gathered.view_is)
    ∙ c.if-gathered.false)
