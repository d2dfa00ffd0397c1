-- No crontab has the name of a later one.
use Rattle.std.proofs.Common.{◌≡◌, ap, sym, ◌∙◌, subst}
use Rattle.std.proofs.lemmas.Result.{IfOk-weaker}
use Rattle.plan_machine.specs.Collection.{IsEachNameOnce}
use Rattle.plan_machine.specs.Cron.{crontabs_of, with_cron_d, with_system}
use Rattle.plan_machine.specs.Spool.{with_spool}
use Rattle.plan_machine.proofs.NameLemmas.{each_name_once}
use Rattle.plan_machine.proofs.cron.crontabs.Goals as goal

pub returns-clause-names : goal.returns-clause-names
returns-clause-names g c = λ known.
    let held = g.T.Tree.held c.args.tree.now in
    let most = c.args.most in
    let whole : with_spool held most c.in_ok-packages.packages ≡ crontabs_of held most =
    ap (λ all. with_spool held most all) (c.in_ok-packages.ensures known
    ∙ ap (λ all. with_cron_d held most all) (c.in_ok-system.ensures known ∙ ap (λ all. with_system held most all) c.new.ensures)) in
    IfOk-weaker c.with_spool.result (λ new. new ≡ with_spool held most c.in_ok-packages.packages) (λ new. IsEachNameOnce new.found)
    (λ new is. subst (λ all. IsEachNameOnce all.found) (sym (is ∙ whole)) (each_name_once held most)) (c.with_spool.ensures known)
