use Rattle.std.proofs.Common.{◌≡◌, ◌∙◌, ap, sym, subst, List, [], ℕ, flat_map, IfOk}
use Rattle.plan_shell.specs.declared.step.Step.{Step}
use Rattle.plan_shell.specs.Tree.{tree_of}
use Rattle.plan_idle.specs.Answers.{answer_at}
use Rattle.plan_idle.specs.Gathered.{Gathered, top_gathered, weighed_all}
use Rattle.plan_idle.specs.Run.{Looks}
use Rattle.plan_idle.specs.Scripts.{directories, script_paths}
use Rattle.plan_idle.proofs.RunLemmas.{directories_weighed}
use Rattle.plan_idle.proofs.script_paths.scripts_run.Goals as goal

pub returns : goal.returns
returns g c = λ known.
    let held = g.T.Tree.held c.args.tree.now in
    let looks : Looks = answer_at held c.args.places.now c.args.asker in
    let dirs : c.as_slice.result.now ≡ directories looks (tree_of c.args.list.now) =
    c.as_slice.ensures.value
    ∙ ap (λ (g : Gathered). g.dirs) (c.gathered.view_is ∙ c.in_ok-gathered.ensures known)
    ∙ ap (λ (looks : Looks). (top_gathered (weighed_all looks c.steps.result.now [])).dirs) c.new-looks.ensures
    ∙ ap (λ (steps : List Step). (top_gathered (weighed_all looks steps [])).dirs) c.steps.ensures
    ∙ sym (directories_weighed looks c.args.list.now) in
    subst (λ (dirs : List (List ℕ)). IfOk c.paths_in_all.result (λ paths. paths.items ≡ flat_map (script_paths held) dirs)) dirs
    (c.paths_in_all.ensures known)
