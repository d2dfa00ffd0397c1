use Rattle.std.proofs.Common.{◌≡◌, ◌++◌, drop, map}
use Rattle.plan_idle.specs.Scripts.{script_path}
use Rattle.plan_idle.proofs.script_paths.paths_of.Given as goal

-- the paths so far, and those of the names that are left, are those of all
abbrev pub invariant-loop-name : goal.invariant-loop-name
invariant-loop-name l =
    l.paths.items ++ map (script_path l.dir) (drop l.name-index l.names) ≡ map (script_path l.dir) l.names
