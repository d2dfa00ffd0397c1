-- Worked rows of gaps with delays. They answer no goal of a function, but test `gaps`. The span is the first day of 2024.
use Rattle.std.proofs.Common.{false, ◌≡◌, ℕ, List, [], ◌∷◌, None, refl}
use Rattle.plan_match.specs.declared.rule.Rule.TheVariants.{Never}
use Rattle.plan_rules.specs.Job.{JobParts}
use Rattle.plan_collect.specs.Agenda.{Planned}
use Rattle.plan_write.specs.Quiet.{gaps}

-- a job with this delay
abbrev delayed : ℕ → JobParts
delayed delay = record { name = []; user = None; command = []; rule = Never; delay = delay; persistent = false }

-- entries of the job with number 0, on that day
abbrev on_day : List (ℕ × ℕ) → Planned
on_day entries = record { span = record { since = 1704067200; upto = 1704153600 }; entries = entries }

-- at 18:00 of the day before, 06:00 and 18:00, each up to 12 hours and one minute later: there is no gap
overlapping_windows : gaps 60 (on_day ((1704045600, 0) ∷ (1704088800, 0) ∷ (1704132000, 0) ∷ [])) (delayed 43260 ∷ []) ≡ []
overlapping_windows = refl

-- at 07:30, up to one second later: there is a gap before it, and one after that second
one_window :
    gaps 60 (on_day ((1704094200, 0) ∷ [])) (delayed 1 ∷ []) ≡ (1704067200, 1704094200) ∷ (1704094201, 1704153600) ∷ []
one_window = refl

-- an early window that is long reaches past a later one that is short
long_before_short :
    gaps 60 (on_day ((1704067200, 0) ∷ (1704070800, 1) ∷ [])) (delayed 7200 ∷ delayed 1 ∷ []) ≡ (1704074400, 1704153600) ∷ []
long_before_short = refl
