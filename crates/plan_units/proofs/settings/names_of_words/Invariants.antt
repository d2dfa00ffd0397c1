use Rattle.std.proofs.Common.{◌≡◌, ◌++◌, drop, map}
use Rattle.plan_units.specs.Settings.{names_of_words}
use Rattle.plan_units.proofs.settings.names_of_words.Given as goal

abbrev pub invariant-loop-word : goal.invariant-loop-word
invariant-loop-word l =
    l.names.items ++ names_of_words l.unit (map (λ word. word.now) (drop l.word-index l.words))
    ≡ names_of_words l.unit (map (λ word. word.now) l.words)
