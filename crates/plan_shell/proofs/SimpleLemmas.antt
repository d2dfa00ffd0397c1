-- The steps of a simple command make one tree.
use Rattle.std.proofs.Common.{◌≡◌, ℕ, Bool, true, false, ◌&&◌, if◌then◌else◌, ◌∙◌, ap, subst, sym, refl, List, [], ◌∷◌, ◌++◌, codes, bytes_eq, Option, Some, None}
use Rattle.std.proofs.lemmas.Option.{cond_some, none-some, option_and_then_some, same_Some}
use Rattle.plan_shell.specs.declared.step.Property.{Property}
use Rattle.plan_shell.specs.declared.step.Property.TheVariants as property
use Rattle.plan_shell.specs.declared.step.Step.{Step}
use Rattle.plan_shell.specs.declared.step.Step.TheVariants as step
use Rattle.plan_shell.specs.declared.conditions.Expected.{Expected}
use Rattle.plan_shell.specs.declared.conditions.Expected.TheVariants as expected
use Rattle.plan_shell.specs.declared.commands.Utility.{Utility}
use Rattle.plan_shell.specs.declared.commands.Utility.TheVariants as utility
use Rattle.plan_shell.specs.Commands.{cd, command, constant, expected_after, is_ended, is_option, is_silenced, looked, name_of, path_of, run_from, run_parts, steps_at, steps_by, steps_of, tests, tests_from, tests_or_effect, utility_of}
use Rattle.plan_shell.specs.Tree.{Shell, Look, Known, Effect, Not, And, top, tree_of, with_step, with_steps}

-- steps after others take the trees that those made
pub after_steps : (steps more : List Step) (trees : List Shell) → with_steps (steps ++ more) trees ≡ with_steps more (with_steps steps trees)
after_steps [] more trees = refl
after_steps (step ∷ steps) more trees = after_steps steps more (with_step step trees)

-- steps that make one tree, whatever was made before
abbrev pub MakeOne : List Step → Type 0
MakeOne steps = (tree : Shell) × ((trees : List Shell) → with_steps steps trees ≡ tree ∷ trees)

pub one_tree : (steps : List Step) → MakeOne steps → (trees : List Shell) → with_steps steps trees ≡ tree_of steps ∷ trees
one_tree steps made trees = made.1 trees ∙ ap (λ tree. tree ∷ trees) (sym (ap top (made.1 [])))

looked_one : (property : Property) (subject : Option (List ℕ)) → MakeOne (looked property subject ∷ [])
looked_one property None = (Effect, λ trees. refl)
looked_one property (Some subject) = (Look property subject, λ trees. refl)

one_if : (b : Bool) (x y : Step) → MakeOne (x ∷ []) → MakeOne (y ∷ []) → MakeOne ((if b then x else y) ∷ [])
one_if true x y first second = first
one_if false x y first second = second

effect_one : MakeOne (step.Effect ∷ [])
effect_one = (Effect, λ trees. refl)

constant_one : (value : Bool) (arguments : List (List ℕ)) → MakeOne (constant value arguments ∷ [])
constant_one value [] = (Known value, λ trees. refl)
constant_one value (argument ∷ arguments) = effect_one

cd_one : (arguments : List (List ℕ)) → MakeOne (cd arguments ∷ [])
cd_one [] = effect_one
cd_one (path ∷ []) = looked_one property.Directory (path_of path)
cd_one (path ∷ other ∷ more) = effect_one

command_one : (arguments : List (List ℕ)) → MakeOne (command arguments ∷ [])
command_one [] = effect_one
command_one (option ∷ []) = effect_one
command_one (option ∷ name ∷ rest) =
    one_if (bytes_eq option (codes "-v") && is_silenced rest) _ _ (looked_one property.Command (name_of name)) effect_one

run_from_one : (word : List ℕ) (words : List (List ℕ)) → MakeOne (run_from word words ∷ [])
run_from_one path [] = looked_one property.NoScripts (path_of path)
run_from_one option (word ∷ words) = one_if (is_option option) _ _ (run_from_one word words) effect_one

run_parts_one : (arguments : List (List ℕ)) → MakeOne (run_parts arguments ∷ [])
run_parts_one [] = effect_one
run_parts_one (word ∷ words) = run_from_one word words

-- a word of COND keeps one tree
looked_at : (expected : Expected) (word : List ℕ) (a : Shell)
    → (tree : Shell) × ((trees : List Shell) → with_steps (steps_at expected word) (a ∷ trees) ≡ tree ∷ trees)
looked_at (expected.Path true property) word a =
    let made : MakeOne (looked property (path_of word) ∷ []) = looked_one property (path_of word) in
    (And a (Not made.0), λ trees. ap (with_steps (step.Not ∷ step.And ∷ [])) (made.1 (a ∷ trees)))
looked_at (expected.Path false property) word a =
    let made : MakeOne (looked property (path_of word) ∷ []) = looked_one property (path_of word) in
    (And a made.0, λ trees. ap (with_steps (step.And ∷ [])) (made.1 (a ∷ trees)))
looked_at _ word a = (a, λ trees. refl)

looked_after : (expected : Expected) (word : List ℕ) (steps : List Step) → MakeOne steps → MakeOne (steps ++ steps_at expected word)
looked_after expected word steps made =
    let next : (tree : Shell) × ((trees : List Shell) → with_steps (steps_at expected word) (made.0 ∷ trees) ≡ tree ∷ trees) =
    looked_at expected word made.0 in
    (next.0, λ trees. after_steps steps (steps_at expected word) trees ∙ ap (with_steps (steps_at expected word)) (made.1 trees) ∙ next.1 trees)

tests_one : (bracket : Bool) (expected : Expected) (so_far : List Step) (words : List (List ℕ)) → MakeOne so_far
    → (steps : List Step) → tests_from bracket expected so_far words ≡ Some steps → MakeOne steps
tests_one bracket expected so_far [] made steps h =
    subst MakeOne (cond_some (is_ended bracket expected) so_far steps h).1 made
tests_one bracket expected so_far (word ∷ words) made steps h =
    option_and_then_some (λ next. tests_from bracket next (so_far ++ steps_at expected word) words) (expected_after bracket expected word) steps h
    λ next e rest. tests_one bracket next (so_far ++ steps_at expected word) words (looked_after expected word so_far made) steps rest

or_effect_one : (found : Option (List Step)) → ((steps : List Step) → found ≡ Some steps → MakeOne steps) → MakeOne (tests_or_effect found)
or_effect_one None each = effect_one
or_effect_one (Some steps) each = each steps refl

cond_one : (bracket : Bool) (arguments : List (List ℕ)) → MakeOne (tests_or_effect (tests bracket arguments))
cond_one bracket arguments =
    or_effect_one (tests bracket arguments) (tests_one bracket expected.Test (step.Known true ∷ []) arguments (Known true, λ trees. refl))

some_one : {found : List Step} (steps : List Step) → Some found ≡ Some steps → MakeOne found → MakeOne steps
some_one {found} steps h made = subst MakeOne (same_Some found steps h) made

simple_one : (utility : Utility) (arguments : List (List ℕ)) (steps : List Step) → steps_by utility arguments ≡ Some steps → MakeOne steps
simple_one utility.Test arguments steps h = some_one steps h (cond_one false arguments)
simple_one utility.Bracket arguments steps h = some_one steps h (cond_one true arguments)
simple_one utility.Cd arguments steps h = some_one steps h (cd_one arguments)
simple_one utility.Command arguments steps h = some_one steps h (command_one arguments)
simple_one utility.RunParts arguments steps h = some_one steps h (run_parts_one arguments)
simple_one utility.True arguments steps h = some_one steps h (constant_one true arguments)
simple_one utility.False arguments steps h = some_one steps h (constant_one false arguments)
simple_one utility.Unread arguments steps h = absurd (none-some steps h)
simple_one utility.Other arguments steps h = some_one steps h effect_one

-- the steps of a simple command make its tree
pub simple_tree : (words : List (List ℕ)) (steps : List Step) → steps_of words ≡ Some steps
    → (trees : List Shell) → with_steps steps trees ≡ tree_of steps ∷ trees
simple_tree [] steps h trees = absurd (none-some steps h)
simple_tree (word ∷ arguments) steps h trees = one_tree steps (simple_one (utility_of word) arguments steps h) trees
