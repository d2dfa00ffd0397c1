use Rattle.std.proofs.Common.{refl}
use Rattle.plan_loads.proofs.timer_lines.add_otherwise.Goals as goal

pub returns-in_ok-push : goal.returns-in_ok-push
returns-in_ok-push c =
    rw (c.in_ok-push.ensures.items, c.in_ok-path_at.ensures, c.in_ok-why.ensures, c.origin-origin.ensures.value, c.if-is_otherwise.true) refl
