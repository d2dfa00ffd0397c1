use Rattle.plan_check.proofs.DecidingLemmas.{law_of_readings}
use Rattle.plan_check.proofs.laws.a_file_means_its_reading.Goals as goal

pub returns : goal.returns
returns c = law_of_readings
