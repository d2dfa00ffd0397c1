-- The scripts that the jobs of a crontab may run by run-parts (run-parts(8) of Debian).
use Rattle.std.specs.Prelude.{ℕ, ◌+◌, List, [], ◌∷◌, Option, None, Some, Ok, Err}
use Rattle.std.specs.List.{cons_option}
use Rattle.plan_idle.specs.Known.{places_of}
use Rattle.plan_idle.specs.Scripts.{scripts_run}
use Rattle.plan_rules.specs.declared.crontabs.Kind.{Kind}
use Rattle.plan_rules.specs.LineFaults.{TextReading}
use Rattle.plan_shell.specs.Tree.{tree_of}
use Rattle.plan_texts.specs.Lines.{lines}
use Rattle.plan_tree.specs.Tree.{Held}
use Rattle.plan_runs.specs.declared.commands.LineCommand.{LineCommand}
use Rattle.plan_runs.specs.Commands.{line_command}
use Rattle.plan_runs.specs.Idle.{asker_of}
use Rattle.plan_runs.specs.Settings.{Settings, first_settings, settings_after}
use Rattle.plan_runs.specs.Texts.{KnownScripts}

-- the scripts of a command in a tree, with these settings
abbrev pub command_scripts : Held → Settings → Option LineCommand → List (List ℕ)
command_scripts held settings None = []
command_scripts held settings (Some command) =
    scripts_run held (places_of held) (asker_of settings command.is_root) (tree_of command.list)

-- the scripts of the line with this number, if it has some
abbrev pub scripts_on : (number : ℕ) → (scripts : List (List ℕ)) → Option KnownScripts
scripts_on number [] = None
scripts_on number (script ∷ more) = Some (record { line = number; scripts = script ∷ more })

-- those of lines; the first has this number, and these settings are in force there
abbrev pub scripts_from : Held → Kind → Settings → (number : ℕ) → (ls : List (List ℕ)) → List KnownScripts
scripts_from held kind settings number [] = []
scripts_from held kind settings number (line ∷ more) =
    cons_option (scripts_on number (command_scripts held settings (line_command kind settings number line)))
    (scripts_from held kind (settings_after settings line) (number + 1) more)

-- a text that is too large or isn't UTF-8 has no jobs
abbrev pub scripts_of_lines : Held → Kind → (owner : List ℕ) → TextReading (List ℕ) → List KnownScripts
scripts_of_lines held kind owner (Ok text) = scripts_from held kind (first_settings owner) 1 (lines text)
scripts_of_lines held kind owner (Err fault) = []
