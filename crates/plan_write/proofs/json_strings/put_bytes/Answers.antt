use Rattle.std.proofs.Common.{sym}
use Rattle.plan_write.proofs.JsonLemmas.{plain_text}
use Rattle.plan_write.proofs.json_strings.put_bytes.Goals as goal

pub returns-else-has_escapes : goal.returns-else-has_escapes
returns-else-has_escapes g c = rw (plain_text c.args.text.now (sym c.if-has_escapes.ensures)) c.put.ensures
