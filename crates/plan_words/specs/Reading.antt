-- The description that a sentence says.
use Rattle.std.specs.Prelude.{ℕ, if◌then◌else◌, List, Option, Some, None}
use Rattle.std.specs.Str.{bytes_eq}
use Rattle.plan_words.specs.Words.{Word}
use Rattle.plan_words.specs.Tree.{Time, Schedule, Description, OnReboot, Scheduled}
use Rattle.plan_words.specs.Pieces.{before_blank, notes_cut, words_in, words_text, zone_of_note}
use Rattle.plan_words.specs.Sentence.{reboot_text, sentence_of}
use Rattle.plan_words.specs.ReadTime.{time_at}
use Rattle.plan_words.specs.ReadDays.{Read, days_at}

-- ---- the whole

-- a schedule of its parts
abbrev pub joined_parts : Option (List ℕ) → Time → Read → Schedule
joined_parts zone time read = record { time = time; days = read.0; months = read.1.0; years = read.1.1; zone = zone }

-- a schedule of its time and what comes after it
abbrev pub after_time : Option (List ℕ) → Time × List Word → Schedule
after_time zone time = joined_parts zone time.0 (days_at time.1)

-- the schedule that words and the notes after them say
abbrev pub schedule_of_words : Option (List ℕ) → List Word → Schedule
schedule_of_words zone words = after_time zone (time_at words)

-- the schedule that a text says, cut into its words and its notes
abbrev pub schedule_by : List ℕ × List ℕ → Schedule
schedule_by cut = schedule_of_words (zone_of_note (before_blank cut.1)) (words_in (words_text cut))

-- the description that a text says if it is a sentence
abbrev pub description_by : List ℕ → Description
description_by text = if bytes_eq text reboot_text then OnReboot else Scheduled (schedule_by (notes_cut text))

-- a description if a text is its sentence
abbrev pub if_said : List ℕ → Description → Option Description
if_said text d = if bytes_eq (sentence_of d) text then Some d else None

-- the description that a sentence says; None if the text is no sentence of one
unfoldable pub description_in : List ℕ → Option Description
description_in text = if_said text (description_by text)
