use Rattle.std.proofs.Common.{arith}
use Rattle.std.proofs.lemmas.Grind.{common_steps}
use Rattle.agenda_machine.proofs.LoadedLemmas.{kept_then}
use Rattle.agenda_machine.proofs.loaded.loaded_from.Goals as goal

pub loop-source-preserved : goal.loop-source-preserved
loop-source-preserved g c = record {
  sources = λ known. grind (arith, common_steps, kept_then, known);
  reports = grind (arith, common_steps);
  jobs = λ known. grind (arith, common_steps, known);
}
