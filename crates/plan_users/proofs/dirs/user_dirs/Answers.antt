-- The paths are those of the home directory.
use Rattle.std.proofs.Common.{◌≡◌, ap, ◌∙◌, subst}
use Rattle.std.specs.Prelude.{IfOk}
use Rattle.plan_units.specs.SearchPath.{dirs_at}
use Rattle.plan_users.specs.Dirs.{config_dir, paths_by}
use Rattle.plan_users.proofs.dirs.user_dirs.Goals as goal

pub returns : goal.returns
returns g c = λ known.
    let home = c.args.home.now in
    let config = c.as_str.ensures ∙ c.in_ok-config.ensures in
    let share = c.as_str-2.ensures ∙ c.in_ok-share.ensures in
    subst (λ paths. IfOk c.dirs_at.result (λ dirs. dirs.items ≡ dirs_at (g.T.Tree.held c.args.tree.now).node paths))
    (c.paths_by-paths.ensures ∙ ap (λ path. paths_by path c.as_str-2.result.now) config ∙ ap (paths_by (config_dir home)) share)
    (c.dirs_at.ensures known)
