use Rattle.std.proofs.Common.{◌≡◌, drop}
use Rattle.plan_services.specs.Started.{named_in_files}
use Rattle.plan_services.proofs.started.named_in_files.Given as goal

abbrev pub invariant-loop-file : goal.invariant-loop-file
invariant-loop-file l = named_in_files l.unit l.files ≡ named_in_files l.unit (drop l.file-index l.files)
