-- The scripts that a command may run (run-parts(8) of Debian).
use Rattle.std.specs.Prelude.{ℕ, Bool, nat_eq, if◌then◌else◌, List, [], ◌∷◌, ◌++◌, map, flat_map, codes}
use Rattle.std.specs.List.{ends_with}
use Rattle.plan_shell.specs.declared.step.Property.{Property}
use Rattle.plan_shell.specs.declared.step.Property.TheVariants as property
use Rattle.plan_shell.specs.Tree.{Shell, Look, Known, Effect, Not, Both, And, Or, If}
use Rattle.plan_tree.specs.Tree.{Held}
use Rattle.plan_idle.specs.Answers.{Asker, answer_at, scripts_of}
use Rattle.plan_idle.specs.Known.{Places}
use Rattle.plan_idle.specs.Outcomes.{outcomes}
use Rattle.plan_idle.specs.Run.{Looks}

-- the directory whose scripts a command runs that looks at something: that of `run-parts`
abbrev pub look_directories : Property → List ℕ → List (List ℕ)
look_directories property.NoScripts dir = dir ∷ []
look_directories _ subject = []

-- the directories of a part that runs only if it may
abbrev pub only_if : (may : Bool) → List (List ℕ) → List (List ℕ)
only_if may dirs = if may then dirs else []

-- the directories of the `run-parts` commands that may run, in order
abbrev pub directories : Looks → Shell → List (List ℕ)
directories looks (Look property subject) = look_directories property subject
directories looks (Known value) = []
directories looks Effect = []
directories looks (Not a) = directories looks a
directories looks (Both a b) = directories looks a ++ directories looks b
directories looks (And a b) = directories looks a ++ only_if (outcomes looks a).may_be_true (directories looks b)
directories looks (Or a b) = directories looks a ++ only_if (outcomes looks a).may_be_false (directories looks b)
directories looks (If a b c) =
    directories looks a ++ (only_if (outcomes looks a).may_be_true (directories looks b)
    ++ only_if (outcomes looks a).may_be_false (directories looks c))

-- what is between a directory and a name in it
abbrev pub slash_after : (dir : List ℕ) → List ℕ
slash_after dir = if ends_with nat_eq dir (codes "/") then [] else codes "/"

-- the path of a script: the directory as it is written, a slash, and the name
abbrev pub script_path : (dir name : List ℕ) → List ℕ
script_path dir name = dir ++ (slash_after dir ++ name)

-- the paths of the scripts of a directory
abbrev pub script_paths : Held → (dir : List ℕ) → List (List ℕ)
script_paths held dir = map (script_path dir) (scripts_of held dir)

-- the paths of the scripts that a command may run
abbrev pub scripts_run : Held → Places → Asker → Shell → List (List ℕ)
scripts_run held places asker tree = flat_map (script_paths held) (directories (answer_at held places asker) tree)
