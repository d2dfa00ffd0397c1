-- What follows a word that is no option.
use Rattle.std.proofs.Common.{◌≡◌, ℕ, ◌<◌, false, if◌then◌else◌, ◌∙◌, ap, List, length, map, drop, get_or, ◌+◌, Bor}
use Rattle.std.proofs.lemmas.List.{at_drop_more}
use Rattle.plan_shell.specs.declared.step.Step.{Step}
use Rattle.plan_shell.specs.declared.step.Step.TheVariants.{Effect}
use Rattle.plan_shell.specs.Commands.{is_option, run_from}

-- a word that is no option, with another one after it, makes a command with an effect
pub stops : (words : List (Bor (List ℕ))) (i : ℕ) (last : List ℕ) (d : Bor (List ℕ)) → i < length words → is_option last ≡ false
    → run_from last (map (λ word. word.now) (drop i words)) ≡ Effect
stops words i last d within other =
    let now : Bor (List ℕ) → List ℕ = λ word. word.now in
    let F : List (Bor (List ℕ)) → Step = λ ws. run_from last (map now ws) in
    at_drop_more F words i d within
    ∙ ap (λ b. if b then run_from (now (get_or words i d)) (map now (drop (i + 1) words)) else Effect) other
