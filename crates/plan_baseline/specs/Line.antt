-- The starts of an agenda, as its lines have them (agenda).
use Rattle.std.specs.Prelude.{ℕ, ◌-◌, ◌<◌, nat_le, IsTrue, List, drop, length, slice_index_or, take, refl}
use Rattle.std.specs.List.{list_all}
use Rattle.std.specs.List.Sorted.{IsNonDecreasingBy}
use Rattle.std.specs.Coded.{Coded, code_by, coded×, coded_list, coded_ℕ}
use Rattle.plan_sets.specs.Limits.{end_second}
use Rattle.plan_next.specs.Span.{Bounds, bounds_code}
use Rattle.plan_baseline.specs.declared.listed.Listed.{Listed}
use Rattle.plan_baseline.specs.declared.lines.Place.{Place}
use Rattle.plan_baseline.specs.declared.tails.Tail.{Tail}

-- a start as a line has it: its second, the name of the job, and what the job runs
pub record Line : Type 0 where
  pub second : ℕ
  pub job : List ℕ
  pub runs : List ℕ

-- the lines are stored as these
abbrev pub line_code : Coded Line
line_code =
    code_by (ℕ × (List ℕ × List ℕ)) (coded× coded_ℕ (coded× (coded_list coded_ℕ) (coded_list coded_ℕ)))
    (λ line. (line.second, (line.job, line.runs))) (λ t. record { second = t.0; job = t.1.0; runs = t.1.1 }) (λ _. refl)

-- what contracts see of an agenda that is read back: its span and its lines
pub record Listing : Type 0 where
  pub span : Bounds
  pub lines : List Line

-- it is stored as the pair of these
abbrev pub listing_code : Coded Listing
listing_code =
    code_by (Bounds × List Line) (coded× bounds_code (coded_list line_code)) (λ listing. (listing.span, listing.lines))
    (λ t. record { span = t.0; lines = t.1 }) (λ _. refl)

-- the line of a start that is listed
abbrev pub line_of : Listed → Line
line_of listed = record { second = listed.second; job = listed.job.now; runs = listed.runs.now }

-- the bytes of a text from one place until before another
abbrev pub part : (from upto : ℕ) → List ℕ → List ℕ
part from upto text = take (upto - from) (drop from text)

-- an empty tail, for a number that no tail has
abbrev pub no_tail : Tail
no_tail = record { job = 0; runs = 0; end = 0 }

-- the line of a second with a tail of a text
abbrev pub line_with : (text : List ℕ) → (second : ℕ) → Tail → Line
line_with text second tail = record {
  second = second;
  job = part tail.job (tail.runs - 1) text;
  runs = part tail.runs tail.end text;
}

-- the line at a place of a text whose tails these are
abbrev pub line_at : (text : List ℕ) → (tails : List Tail) → Place → Line
line_at text tails place = line_with text place.second (slice_index_or tails place.tail no_tail)

-- the tail of a place is one of these
abbrev pub IsPlace : (tails : List Tail) → Place → Type 0
IsPlace tails place = place.tail < length tails

-- lines are in the order of their seconds, which are in the planner's years
abbrev pub AreOrdered : List Line → Type 0
AreOrdered lines = IsNonDecreasingBy (λ line. line.second) lines × IsTrue (list_all (λ line. nat_le line.second end_second) lines)
