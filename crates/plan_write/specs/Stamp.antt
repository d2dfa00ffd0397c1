-- The text of a time at the start of a line of an agenda.
use Rattle.std.specs.Prelude.{ℕ, List, ◌++◌, codes}
use Rattle.plan_sets.specs.Moment.{moment_text_of}
use Rattle.plan_write.specs.declared.local_times.Suffix.{Suffix}
use Rattle.plan_write.specs.declared.local_times.Suffix.TheVariants.{Utc, Minutes, Seconds}

-- the text of the time, and a tab after it (agenda)
abbrev pub stamp_text : ℕ → List ℕ
stamp_text second = moment_text_of second ++ codes "\t"

-- what follows the date and the time of day: the letter of UTC, or the bytes of an offset (RFC 3339, time-offset)
abbrev pub bytes_of : Suffix → List ℕ
bytes_of Utc = codes "Z"
bytes_of (Minutes bytes) = bytes
bytes_of (Seconds bytes) = bytes
