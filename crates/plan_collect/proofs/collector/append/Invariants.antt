use Rattle.std.proofs.Common.{◌≡◌, ◌+◌, ◌-◌, ◌≤◌, ◌++◌, length, map, take, vec_len, vec_capacity}
use Rattle.plan_collect.proofs.collector.append.Given as goal

-- entries of the starts so far were appended, and there is capacity for the others
abbrev pub invariant-loop-start : goal.invariant-loop-start
invariant-loop-start l =
    (l.entries.items ≡ l.initial.entries.items ++ map (λ second. (second, l.job)) (take l.start-index l.starts))
    × (vec_len l.entries + (length l.starts - l.start-index) ≤ vec_capacity l.entries)
