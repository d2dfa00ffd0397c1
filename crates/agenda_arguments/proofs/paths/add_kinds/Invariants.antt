use Rattle.std.proofs.Common.{◌≡◌, ◌++◌, map, take}
use Rattle.std.specs.List.{flat_map}
use Rattle.clap.specs.Words.{found_of, rows_of}
use Rattle.agenda_arguments.specs.Arguments.{path_of, paths_in}
use Rattle.agenda_arguments.proofs.paths.add_kinds.Given as goal

-- the paths of the kinds so far follow the paths from before the loop
abbrev pub invariant-loop-kind : goal.invariant-loop-kind
invariant-loop-kind l =
    l.paths
    ≡ l.fn.paths ++ flat_map (λ kind. map (path_of kind) (paths_in kind (rows_of (found_of l.given)))) (take l.kind-index l.kinds)
