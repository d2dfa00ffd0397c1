-- Starts of a timer that systemd may merge (systemd.timer(5), AccuracySec= and RandomizedDelaySec=).
use Rattle.std.specs.Prelude.{◌≡◌, ℕ, ◌+◌, ◌-◌, ◌%◌, Bool, not, ◌&&◌, List, [], ◌∷◌}
use Rattle.std.specs.List.{list_all, list_any, range_with_len}
use Rattle.plan_sets.specs.Values.{Values as SetOfValues, has_value}
use Rattle.plan_match.specs.declared.event.Calendar.{Calendar}
use Rattle.plan_match.specs.declared.rule.Rule.{Rule}
use Rattle.plan_next.specs.Close.{has_close_starts}

-- 2024-01-01T00:00:00Z, from which on starts are compared (agenda)
abbrev pub merge_since : ℕ
merge_since = 1_704_067_200

-- the end of the 400 days from then on (agenda)
abbrev pub merge_until : ℕ
merge_until = 1_738_627_200

-- a start within these days has another one less than the delay after it, which is in seconds, rounded up: starts are at whole
-- seconds (systemd.timer(5))
abbrev pub may_merge : Rule → (delay : ℕ) → Bool
may_merge rule delay = has_close_starts rule merge_since merge_until delay

-- ---- what decides for most timers, in UTC

-- an event has no clock, and these seconds
abbrev pub HasSeconds : SetOfValues → Calendar → Type 0
HasSeconds seconds event = (event.clock ≡ []) × (event.seconds ≡ seconds)

-- so have all events of a list
abbrev pub HaveSeconds : SetOfValues → List Calendar → Type 0
HaveSeconds seconds [] = Unit {0}
HaveSeconds seconds (event ∷ events) = HasSeconds seconds event × HaveSeconds seconds events

-- a second of the set has another one less than `apart` seconds after it, in the same minute or in the next
abbrev pub has_near : SetOfValues → (apart s : ℕ) → Bool
has_near seconds apart s = list_any (λ k. has_value seconds ((s + k) % 60)) (range_with_len 1 (apart - 1))

-- no second of the set has
abbrev pub are_apart : SetOfValues → (apart : ℕ) → Bool
are_apart seconds apart = list_all (λ s. not (has_value seconds s && has_near seconds apart s)) (range_with_len 0 60)
