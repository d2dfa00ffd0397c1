use Rattle.std.proofs.Common.{◌≡◌, ◌++◌, map, take}
use Rattle.agenda_arguments.specs.Arguments.{path_of}
use Rattle.agenda_arguments.proofs.paths.add_all.Given as goal

-- the paths so far follow the paths from before the loop
abbrev pub invariant-loop-path : goal.invariant-loop-path
invariant-loop-path l = l.paths ≡ l.fn.paths ++ map (path_of l.kind) (map (λ path. path.now) (take l.path-index l.written))
