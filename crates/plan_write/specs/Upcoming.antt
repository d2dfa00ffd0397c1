-- The text of the next starts of jobs (agenda).
use Rattle.std.specs.Prelude.{ℕ, Bool, nat_lt, if◌then◌else◌, List, Option, Some, None, slice_get}
use Rattle.std.specs.List.{flat_map}
use Rattle.plan_sets.specs.Limits.{end_second}
use Rattle.plan_write.specs.Texts.{EndParts, line_of}
use Rattle.plan_write.specs.declared.formats.Format.{Format}
pub use Rattle.plan_collect.specs.Upcoming.{AreUpcoming}

-- a job's next start, or none if it has no start before the end of all years
abbrev pub start_or_none : ℕ → Option ℕ
start_or_none second = if nat_lt second end_second then Some second else None

-- the lines of next starts, in order, by the ends of the lines of each job
abbrev pub upcoming_text : Format → (delays : Bool) → List (ℕ × ℕ) → (ends : List EndParts) → List ℕ
upcoming_text format delays nexts ends =
    flat_map (λ next. line_of format delays (start_or_none next.0) (slice_get ends next.1)) nexts
