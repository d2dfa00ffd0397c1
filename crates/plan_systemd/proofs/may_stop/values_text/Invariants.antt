use Rattle.std.proofs.Common.{◌≡◌, ◌+◌, ◌-◌, ◌++◌, string_bytes}
use Rattle.std.specs.Fmt.{decimal}
use Rattle.std.specs.List.{range_with_len}
use Rattle.std.specs.Prelude.{flat_map}
use Rattle.plan_systemd.specs.MayStop.{later_value}
use Rattle.plan_systemd.proofs.may_stop.values_text.Given as goal

-- the text has the values before this number
abbrev pub invariant-loop-v : goal.invariant-loop-v
invariant-loop-v l =
    string_bytes l.text ≡ decimal l.first ++ flat_map (later_value l.first l.step) (range_with_len (l.first + 1) (l.v - (l.first + 1)))
