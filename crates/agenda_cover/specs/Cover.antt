-- How much of a span the jobs of an agenda cover: the seconds at which they may start (agenda).
use Rattle.std.specs.Prelude.{ℕ, ◌-◌, ◌==◌, ◌&&◌, Bool, nat_le, List, [], ◌∷◌, IsTrue, count_by, length, map, slice_get}
use Rattle.std.specs.List.{list_all, list_any, range_with_len}
use Rattle.plan_collect.specs.Agenda.{Planned}
use Rattle.plan_collect.specs.Windows.{latest_start}
use Rattle.plan_rules.specs.Job.{JobParts}
use Rattle.plan_write.specs.Quiet.{delay_of}

-- whether a second is in the window of an entry: it isn't before the entry's time, nor after the latest start
abbrev pub is_in_window : List JobParts → (entry : ℕ × ℕ) → (second : ℕ) → Bool
is_in_window jobs entry second =
    nat_le entry.0 second && nat_le second (latest_start (delay_of (slice_get jobs entry.1)) entry.0)

-- whether the job with a number may start at a second, by one of these entries
abbrev pub may_start : List JobParts → (entries : List (ℕ × ℕ)) → (number second : ℕ) → Bool
may_start jobs entries number second = list_any (λ entry. entry.1 == number && is_in_window jobs entry second) entries

-- how many seconds from one until before another pass a test
unfoldable pub tally : (ℕ → Bool) → (from upto : ℕ) → ℕ
tally test from upto = count_by test (range_with_len from (upto - from))

-- what the job with a number covers: the number of seconds of the span at which it may start
abbrev pub cover : Planned → List JobParts → (number : ℕ) → ℕ
cover made jobs number = tally (may_start jobs made.entries number) made.span.since made.span.upto

-- what each job covers, in the order of their numbers
abbrev pub covers : Planned → List JobParts → List ℕ
covers made jobs = map (cover made jobs) (range_with_len 0 (length jobs))

-- no entry is before this second
abbrev pub AreFrom : (second : ℕ) → List (ℕ × ℕ) → Type 0
AreFrom second entries = IsTrue (list_all (λ entry. nat_le second entry.0) entries)

-- the entries are in the order of their times, as those of an agenda are
abbrev pub AreInOrder : List (ℕ × ℕ) → Type 0
AreInOrder [] = Unit {0}
AreInOrder (entry ∷ later) = AreFrom entry.0 later × AreInOrder later
