-- UTC and a name that isn't ASCII are not looked up. The bytes of a word in ASCII are UTF-8, so the text can be borrowed.
use Rattle.plan_grammar.proofs.NameLemmas.{ascii_is_utf8}
use Rattle.plan_grammar.proofs.event.name_in_database.Goals as goal
use Rattle.std.proofs.Common.{arith}
use Rattle.std.proofs.lemmas.Bool.Decides.{nat_tests}
use Rattle.std.proofs.lemmas.Grind.{common_steps}

pub returns-in-Err : goal.returns-in-Err
returns-in-Err c = grind (arith, nat_tests, common_steps, ascii_is_utf8)
