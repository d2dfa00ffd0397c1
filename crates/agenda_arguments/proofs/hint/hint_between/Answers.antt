-- The text is cut where std finds the end of the line, and the hint is put between the parts.
use Rattle.std.proofs.Common.{◌∙◌, arith, rules}
use Rattle.agenda_arguments.specs.Hint.{word_end}
use Rattle.agenda_arguments.proofs.HintLemmas.{cut_first, cut_nowhere}
use Rattle.agenda_arguments.proofs.hint.hint_between.Goals as goal

pub returns-in_ok-text-in-Some : goal.returns-in_ok-text-in-Some
returns-in_ok-text-in-Some c =
    let cut = c.in-Some.ensures.cases in
    let found = cut_first word_end c.args.said.now cut.0 cut.1 (omega arith) cut.2 in
    rw (found, ← cut.3, ← cut.4) (c.new.ensures ∙ c.in_ok-text-in-Some.ensures.ok)

pub returns-in-None : goal.returns-in-None
returns-in-None c =
    let found = cut_nowhere word_end c.args.said.now c.in-None.ensures.cases in
    rw found (search rules)
