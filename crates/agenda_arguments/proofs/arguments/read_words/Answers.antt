-- The definition chooses the command line by the same test.
use Rattle.std.proofs.Common.{◌≡◌, ◌-◌, ◌∙◌, arith, drop, length, length-drop, map, string_bytes, sym, take, take_all, true}
use Rattle.std.proofs.lemmas.List.{drop-map}
use Rattle.agenda_arguments.specs.Arguments.{are_of_machine, asked_by}
use Rattle.agenda_arguments.proofs.HintLemmas.{no_hint}
use Rattle.agenda_arguments.proofs.arguments.read_words.Goals as goal

pub returns-then-are_of_machine : goal.returns-then-are_of_machine
unfolding asked_by
returns-then-are_of_machine c =
    let given = c.args.words.now in
    let test : are_of_machine (map string_bytes given) ≡ true = sym c.are_of_machine.ensures ∙ c.if-are_of_machine.true in
    let rest : take (length given - 1) (drop 1 given) ≡ drop 1 given =
    take_all (length given - 1) (drop 1 given) (omega (arith, length-drop 1 given)) in
    rw (test, drop-map string_bytes 1 given, ← rest) c.asked_about_machine.ensures

pub returns-else-are_of_machine : goal.returns-else-are_of_machine
unfolding asked_by
returns-else-are_of_machine c =
    rw (← c.are_of_machine.ensures, c.if-are_of_machine.false) (c.asked_by_agenda.ensures, no_hint c.asked_by_agenda.result)
