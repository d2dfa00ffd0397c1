-- The accuracy after system.conf, and then after its drop-ins.
use Rattle.std.proofs.Common.{◌≡◌, codes, ap, ◌∙◌}
use Rattle.std.proofs.lemmas.Result.{IfOk-weaker}
use Rattle.plan_services.specs.Accuracy.{accuracy_after_file, accuracy_after_files, default_accuracy}
use Rattle.plan_services.proofs.accuracy.default_accuracy.Goals as goal

pub returns : goal.returns
returns g c = λ known.
    let held = g.T.Tree.held c.args.tree.now in
    let read = c.as_slice.result.now in
    let files = c.as_slice.ensures.value ∙ c.in_ok-files.ensures known in
    IfOk-weaker c.accuracy_after_files.result (λ accuracy. accuracy ≡ accuracy_after_files held c.in_ok-accuracy.accuracy read)
    (λ accuracy. accuracy ≡ default_accuracy held)
    (λ accuracy is.
    is ∙ ap (λ before. accuracy_after_files held before read) (c.in_ok-accuracy.ensures known)
    ∙ ap (accuracy_after_files held (accuracy_after_file held 60000000 (codes "etc/systemd/system.conf"))) files)
    (c.accuracy_after_files.ensures known)
