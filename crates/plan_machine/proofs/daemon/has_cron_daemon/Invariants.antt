use Rattle.std.proofs.Common.{◌≡◌, drop, map, true}
use Rattle.plan_machine.specs.Daemon.{has_cron_daemon, has_daemon_among}
use Rattle.plan_machine.proofs.daemon.has_cron_daemon.Given as goal

abbrev pub invariant-loop-path : goal.invariant-loop-path
invariant-loop-path g l =
    g.T.Tree.is_known ≡ true →
    has_cron_daemon (g.T.Tree.held l.tree).node
    ≡ has_daemon_among (g.T.Tree.held l.tree).node (map (λ path. path.now) (drop l.path-index l.path-items))
