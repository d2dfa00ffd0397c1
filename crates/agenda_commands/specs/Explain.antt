-- What is written about the codes of errors and warnings. All of it is our choice (agenda).
use Rattle.std.specs.Prelude.{ℕ, List, Option, None, Some, Result, Ok}
use Rattle.agenda_codes.specs.declared.Code.{Code}
use Rattle.agenda_codes.specs.Codes.{text_of}
use Rattle.agenda_codes.specs.Texts.{codes_text}
use Rattle.agenda_faults.specs.declared.faults.RunFault.{RunFault}

-- what `explain` writes: what a code means, or the list of all codes
abbrev pub explain_text : Option Code → List ℕ
explain_text None = codes_text
explain_text (Some code) = text_of code

-- the output of `explain`, which has no error
abbrev pub explain_output : Option Code → Result (List ℕ) RunFault
explain_output code = Ok (explain_text code)
