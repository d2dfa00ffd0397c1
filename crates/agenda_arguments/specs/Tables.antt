-- Whether an answer is a table.
use Rattle.std.specs.Prelude.{Bool, true, false}
use Rattle.agenda_arguments.specs.declared.ask.TableRequest.{TableRequest}
use Rattle.agenda_arguments.specs.declared.ask.TableRequest.TheVariants as table_request

-- on a terminal or elsewhere (agenda)
abbrev pub is_table : TableRequest → (terminal : Bool) → Bool
is_table table_request.Always terminal = true
is_table table_request.Never terminal = false
is_table table_request.OnTerminal terminal = terminal
