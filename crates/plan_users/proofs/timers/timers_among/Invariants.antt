use Rattle.std.proofs.Common.{◌≡◌, drop, true}
use Rattle.plan_users.specs.Found.{FoundUsers, nothing, users_view}
use Rattle.plan_users.specs.Timers.{AreFoundAfter}
use Rattle.plan_users.proofs.timers.timers_among.Given as goal

-- what is found for the users who are left, after what is found so far, is all
abbrev pub invariant-loop-manager : goal.invariant-loop-manager
invariant-loop-manager g l =
    g.T.Tree.is_known ≡ true →
    (all : FoundUsers) → AreFoundAfter (g.T.Tree.held l.tree) l.most (drop l.manager-index l.managers) (users_view l.found) all →
    AreFoundAfter (g.T.Tree.held l.tree) l.most l.managers nothing all
