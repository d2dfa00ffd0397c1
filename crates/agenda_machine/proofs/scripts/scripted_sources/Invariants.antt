use Rattle.std.proofs.Common.{◌≡◌, map, take, true}
use Rattle.agenda_machine.specs.Scripts.{with_scripts}
use Rattle.agenda_machine.proofs.scripts.scripted_sources.Given as goal

-- the sources so far
abbrev pub invariant-loop-source : goal.invariant-loop-source
invariant-loop-source g l =
    g.T.Tree.is_known ≡ true → l.all.items ≡ map (with_scripts (g.T.Tree.held l.tree)) (take l.source-index l.sources)
