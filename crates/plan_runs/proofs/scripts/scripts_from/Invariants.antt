use Rattle.std.proofs.Common.{◌≡◌, ◌≤◌, ◌+◌, ◌++◌, true, drop, length, map}
use Rattle.plan_idle.specs.Known.{places_of}
use Rattle.plan_texts.specs.Limits.{most_bytes}
use Rattle.plan_runs.specs.Scripts.{scripts_from}
use Rattle.plan_runs.specs.Settings.{first_settings}
use Rattle.plan_runs.proofs.scripts.scripts_from.Given as goal

-- the number is that of the next line; the scripts so far, with those of the lines that are left, are all
abbrev pub invariant-loop-line : goal.invariant-loop-line
invariant-loop-line g l = record {
  number : l.number ≡ 1 + l.line-index;
  few : length l.lines ≤ most_bytes;
  all : g.T.Tree.is_known ≡ true → l.places ≡ places_of (g.T.Tree.held l.tree) →
      l.found.items ++ scripts_from (g.T.Tree.held l.tree) l.kind l.settings
      l.number (map (λ line. line.now) (drop l.line-index l.lines))
      ≡ scripts_from (g.T.Tree.held l.tree) l.kind (first_settings l.owner) 1 (map (λ line. line.now) l.lines);
}
