-- Sentences are read back, and their note that no day matches is true.
use Rattle.std.specs.Prelude.{◌≡◌, ◌↔◌, ℕ, ◌<◌, true, false, Some}
use Rattle.plan_sets.specs.Civil.{civil_fields}
use Rattle.plan_sets.specs.Limits.{end_second}
use Rattle.plan_words.specs.Tree.{Schedule, Description}
use Rattle.plan_words.specs.Meaning.{has_day}
use Rattle.plan_words.specs.Existing.{is_void}
use Rattle.plan_words.specs.Sentence.{sentence_of}
use Rattle.plan_words.specs.Reading.{description_in}
use Rattle.plan_words.specs.WellFormed.{IsWellFormed}

-- the sentence of each well-formed description is read back as that description
abbrev pub ReadsBack : Type 0
ReadsBack = (d : Description) → IsWellFormed d → description_in (sentence_of d) ≡ Some d

-- no two well-formed descriptions have one sentence
abbrev pub Differ : Type 0
Differ = (d e : Description) → IsWellFormed d → IsWellFormed e → sentence_of d ≡ sentence_of e → d ≡ e

-- a schedule is void exactly if no second of the supported years is on one of its days
abbrev pub VoidMeans : Type 0
VoidMeans = (s : Schedule) → (is_void s ≡ true) ↔ ((n : ℕ) → n < end_second → has_day s (civil_fields n) ≡ false)
