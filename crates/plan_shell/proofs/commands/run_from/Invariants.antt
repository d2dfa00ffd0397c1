use Rattle.std.proofs.Common.{◌≡◌, map, drop}
use Rattle.plan_shell.specs.Commands.{run_from}
use Rattle.plan_shell.proofs.commands.run_from.Given as goal

-- what is left says as much as all words
abbrev pub invariant-loop-word : goal.invariant-loop-word
invariant-loop-word l =
    run_from l.last (map (λ word. word.now) (drop l.word-index l.rest)) ≡ run_from l.fn.first (map (λ word. word.now) l.rest)
