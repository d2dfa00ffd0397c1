use Rattle.plan_write.proofs.JsonLaws.{read_back}
use Rattle.plan_write.proofs.json_strings.strings_read_back.Goals as goal

pub returns : goal.returns
returns c = read_back
