use Rattle.std.proofs.Common.{◌≡◌, ◌++◌, string_bytes, take}
use Rattle.agenda_describe.specs.Timers.{more_sentences}
use Rattle.agenda_describe.proofs.timer.add_all.Given as goal

-- the sentences so far follow the text from before the loop
abbrev pub invariant-loop-sentence : goal.invariant-loop-sentence
invariant-loop-sentence l = string_bytes l.text ≡ string_bytes l.fn.text ++ more_sentences (take l.sentence-index l.more)
