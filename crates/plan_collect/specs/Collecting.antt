-- What a collector holds, which messages it rejects, and what the others add (agenda).
use Rattle.std.specs.Prelude.{◌≡◌, ℕ, ◌+◌, ◌%◌, ◌<◌, ◌≤◌, Bool, true, false, ◌&&◌, ◌==◌, nat_lt, nat_le, if◌then◌else◌, List, [], ◌∷◌, ◌++◌, length, map, replicate, Option, Some, None, slice_get, slice_index, slice_set, unwrap_or, Result, Ok, Err}
use Rattle.std.specs.Prelude.{refl}
use Rattle.std.specs.Coded.{Coded, code_by, coded×, coded_list, coded_ℕ, coded_bool}
use Rattle.std.specs.List.{list_all}
use Rattle.plan_match.specs.declared.rule.Rule.{Rule}
use Rattle.plan_match.specs.Equal.{same_rule}
use Rattle.plan_next.specs.Starts.{starts}
use Rattle.plan_collect.specs.declared.note.Note.{Note}
use Rattle.plan_collect.specs.declared.note.Note.TheVariants.{Part, Last}
use Rattle.plan_collect.specs.declared.collector.CollectFault.{CollectFault}
use Rattle.plan_collect.specs.declared.collector.CollectFault.TheVariants.{NoMemory, Stranger, Gap, TooMany, AfterLast, Missing}
use Rattle.plan_rules.specs.Limits.{most_jobs}
use Rattle.plan_next.specs.Span.{Bounds, bounds_code}
use Rattle.plan_collect.specs.Limits.{is_limit, is_size}
use Rattle.plan_collect.specs.Agenda.{Planned}
use Rattle.plan_collect.specs.Windows.{Timing, timing_code, first_second, planned_windows}

-- what contracts see of a collector: when the jobs may start, the span, the limit of entries, for each job the second before
-- which all its starts are held, and for each planner whether its last message was accepted; the starts that are held
-- follow from these
pub record Collected : Type 0 where
  pub timings : List Timing
  pub span : Bounds
  pub limit : ℕ
  pub covered : List ℕ
  pub ended : List Bool

-- a collector is stored as the tuple of these
abbrev pub collected_code : Coded Collected
collected_code =
    code_by ((List Timing × Bounds) × (ℕ × (List ℕ × List Bool)))
    (coded× (coded× (coded_list timing_code) bounds_code) (coded× coded_ℕ (coded× (coded_list coded_ℕ) (coded_list coded_bool))))
    (λ c. ((c.timings, c.span), (c.limit, (c.covered, c.ended))))
    (λ t. record { timings = t.0.0; span = t.0.1; limit = t.1.0; covered = t.1.1.0; ended = t.1.1.1 })
    (λ _. refl)

-- for each job the second from which on its windows meet the span
abbrev pub firsts_of : Bounds → List Timing → List ℕ
firsts_of span timings = map (λ timing. first_second span timing.delay) timings

-- a new collector, which holds nothing
abbrev pub begun : List Timing → Bounds → (planners limit : ℕ) → Collected
begun timings span planners limit = record {
  timings = timings;
  span = span;
  limit = limit;
  covered = firsts_of span timings;
  ended = replicate planners false;
}

-- the entries of jobs from the second at which their windows first meet the span to where each is covered; the first job
-- has number `job`
abbrev pub held_from : (job : ℕ) → Bounds → List Timing → List ℕ → List (ℕ × ℕ)
held_from job span [] covered = []
held_from job span (timing ∷ timings) [] = []
held_from job span (timing ∷ timings) (upto ∷ covered) =
    map (λ second. (second, job)) (starts timing.rule (first_second span timing.delay) upto)
    ++ held_from (job + 1) span timings covered

-- what a collector holds: for each job, all starts whose windows meet the span and that are before where the job is covered
abbrev pub held : Collected → List (ℕ × ℕ)
held c = held_from 0 c.span c.timings c.covered

-- this is the job's rule, if there is such a job
abbrev pub is_rule_of : Option Timing → Rule → Bool
is_rule_of None rule = false
is_rule_of (Some timing) rule = same_rule timing.rule rule

-- this planner may send the message: there is such a planner, and a piece is of a job of this planner and has the job's
-- rule; job j is that of planner j mod planners (agenda)
abbrev pub belongs : Collected → (planner : ℕ) → Note → Bool
belongs c planner (Part job piece) =
    nat_lt planner (length c.ended) && (job % length c.ended == planner && is_rule_of (slice_get c.timings job) piece.rule)
belongs c planner Last = nat_lt planner (length c.ended)

-- this planner's last message was accepted before
abbrev pub has_ended : Collected → (planner : ℕ) → Bool
has_ended c planner = unwrap_or (slice_get c.ended planner) false

-- a piece starts where its job is covered to, and ends within the span
abbrev pub adjoins : Collected → Note → Bool
adjoins c (Part job piece) = slice_index c.covered job == piece.since && nat_le piece.upto c.span.upto
adjoins c Last = true

-- a piece's starts and those that are held are at most as many as the limit
abbrev pub has_room : Collected → Note → Bool
has_room c (Part job piece) = nat_le (length (held c) + length (starts piece.rule piece.since piece.upto)) c.limit
has_room c Last = true

-- why a message is rejected, unless an allocation fails: the first that applies
abbrev pub fault_of_note : Collected → (planner : ℕ) → Note → Option CollectFault
fault_of_note c planner note =
    if belongs c planner note then
    (if has_ended c planner then Some AfterLast else
    (if adjoins c note then
    (if has_room c note then None else Some TooMany) else
    Some Gap)) else
    Some Stranger

-- the message adds no starts to what is held
abbrev pub AddsNothing : Note → Type 0
AddsNothing (Part job piece) = starts piece.rule piece.since piece.upto ≡ []
AddsNothing Last = Unit {0}

-- the answer to a message: the error, if it is rejected; else it is accepted, or an allocation failed
abbrev pub Answers : Result (Unit {0}) CollectFault → Option CollectFault → Type 0
Answers (Ok done) expected = expected ≡ None
Answers (Err NoMemory) expected = expected ≡ None
Answers (Err fault) expected = expected ≡ Some fault

-- what an accepted message changes
abbrev pub after : Collected → (planner : ℕ) → Note → Collected
after c planner (Part job piece) = record c { covered = slice_set c.covered job piece.upto }
after c planner Last = record c { ended = slice_set c.ended planner true }

-- each job is covered to the end of the span, and each planner's last message was accepted
abbrev pub is_complete : Collected → Bool
is_complete c = list_all (λ upto. upto == c.span.upto) c.covered && list_all (λ has_sent_last. has_sent_last) c.ended

-- the answer of a collector that receives nothing more
abbrev pub finished : Collected → Result Planned CollectFault
finished c = if is_complete c then Ok (planned_windows c.timings c.span) else Err Missing

-- the sum of the entries' weights
abbrev pub weigh : (ℕ × ℕ → ℕ) → List (ℕ × ℕ) → ℕ
weigh weight [] = 0
weigh weight (entry ∷ entries) = weight entry + weigh weight entries

-- two lists have the same entries, each as often: with any weights of entries, they have the same sum
abbrev pub SameStarts : List (ℕ × ℕ) → List (ℕ × ℕ) → Type 0
SameStarts xs ys = (weight : ℕ × ℕ → ℕ) → weigh weight xs ≡ weigh weight ys

-- these entries, in any order, are what a collector holds, and its parts fit together
pub record Holds (c : Collected) (entries : List (ℕ × ℕ)) : Type 0 where
  pub same : SameStarts entries (held c)
  pub few : length entries ≤ c.limit
  pub limit : is_limit c.limit ≡ true
  pub size : is_size (length c.ended) ≡ true
  pub few_jobs : length c.timings ≤ most_jobs
  pub jobs : length c.covered ≡ length c.timings
  pub since : (job : ℕ) (timing : Timing) → slice_get c.timings job ≡ Some timing →
      first_second c.span timing.delay ≤ slice_index c.covered job
  pub upto : (job : ℕ) → job < length c.covered → slice_index c.covered job ≤ c.span.upto
  pub ordered : c.span.since ≤ c.span.upto
