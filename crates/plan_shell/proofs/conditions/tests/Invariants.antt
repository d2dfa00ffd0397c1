use Rattle.std.proofs.Common.{◌≡◌, [], ◌∷◌, map, drop}
use Rattle.plan_shell.specs.declared.step.Step.TheVariants.{Known}
use Rattle.plan_shell.specs.declared.conditions.Expected.TheVariants.{Test}
use Rattle.plan_shell.specs.Commands.{tests_from}
use Rattle.std.proofs.Common.{true}
use Rattle.plan_shell.proofs.conditions.tests.Given as goal

-- the steps of the words that are left, after those so far, are those of all words
abbrev pub invariant-loop-word : goal.invariant-loop-word
invariant-loop-word l =
    tests_from l.bracket l.expected l.steps.items (map (λ word. word.now) (drop l.word-index l.words))
    ≡ tests_from l.bracket Test (Known true ∷ []) (map (λ word. word.now) l.words)
