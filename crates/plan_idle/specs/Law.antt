-- An idle command runs nothing that has an effect, in no tree that has the same at the known places (agenda).
use Rattle.std.specs.Prelude.{◌≡◌, ◌≢◌, ℕ, Bool, false, if◌then◌else◌, List}
use Rattle.std.specs.Str.{bytes_eq}
use Rattle.plan_shell.specs.declared.step.Property.{Property}
use Rattle.plan_shell.specs.declared.step.Property.TheVariants as property
use Rattle.plan_shell.specs.Tree.{Shell}
use Rattle.plan_tree.specs.declared.tree.Node.TheVariants as node
use Rattle.plan_tree.specs.Links.{end_of}
use Rattle.plan_tree.specs.Tree.{Held}
use Rattle.plan_idle.specs.Answers.{Asker, answer_at, booted_answer, booted_path, command_by, no_scripts_answer, path_answer, word_answer}
use Rattle.plan_idle.specs.Known.{known_at, places_of, seen_by}
use Rattle.plan_idle.specs.Outcomes.{outcomes}
use Rattle.plan_idle.specs.Run.{Looks, run}

-- what a command of a user finds in a tree, whoever may change it
abbrev pub found_at : Held → Asker → Looks
found_at held asker property.Command name = command_by (seen_by asker.is_root held) name asker.path (word_answer asker.is_bash name)
found_at held asker property.NoScripts dir = no_scripts_answer (seen_by asker.is_root held) (end_of held.node dir)
found_at held asker property subject =
    if bytes_eq subject booted_path then booted_answer held property else path_answer (seen_by asker.is_root held) property subject

-- a place has the same in two trees
pub record IsSame (held other : Held) (place : List ℕ) : Type 0 where
  pub node : other.node place ≡ held.node place
  pub status : other.status place ≡ held.status place
  pub names : other.names place ≡ held.names place

-- each place of a tree that is known to a user has the same in another one, and so has run/systemd/system
pub record AgreesFor (is_root : Bool) (held other : Held) : Type 0 where
  pub same : (place : List ℕ) → known_at (places_of held) is_root false held place ≢ node.Unreadable → IsSame held other place
  pub booted : (property : Property) → booted_answer other property ≡ booted_answer held property

-- a command that is idle in a tree runs nothing with an effect in another one that agrees with it, whatever the values are of the simple
-- commands whose value isn't known
abbrev pub IdleRunsNothing : Type 0
IdleRunsNothing =
    (held other : Held) (asker : Asker) (values : ℕ → Bool) (tree : Shell) → AgreesFor asker.is_root held other →
    (outcomes (answer_at held (places_of held) asker) tree).may_act ≡ false → (run (found_at other asker) values 0 tree).acts ≡ false
