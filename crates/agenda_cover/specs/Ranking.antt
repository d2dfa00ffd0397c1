-- Which jobs cover most of a span (agenda).
use Rattle.std.specs.Prelude.{ℕ, Bool, nat_lt, if◌then◌else◌, List, [], ◌∷◌, filter, take}
use Rattle.std.specs.List.{enumerate_from}

-- a job's number, with the number of seconds that it covers, at its place in a list: after those that cover as much or more
abbrev pub placed : ℕ × ℕ → List (ℕ × ℕ) → List (ℕ × ℕ)
placed job [] = job ∷ []
placed job (other ∷ others) = if nat_lt other.1 job.1 then job ∷ (other ∷ others) else other ∷ placed job others

-- these jobs, each at its place after those before it: the one that covers most first, of equals the one that is given first
abbrev pub ranked_after : (ranked jobs : List (ℕ × ℕ)) → List (ℕ × ℕ)
ranked_after ranked [] = ranked
ranked_after ranked (job ∷ jobs) = ranked_after (placed job ranked) jobs

-- whether a job covers anything
abbrev pub covers_some : ℕ × ℕ → Bool
covers_some job = nat_lt 0 job.1

-- the three jobs that cover most of these and one more
abbrev pub with_job : ℕ × ℕ → List (ℕ × ℕ) → List (ℕ × ℕ)
with_job job most = if covers_some job then take 3 (placed job most) else most

-- the at most three jobs that cover most, most first, of equals the one with the lower number first
unfoldable pub most_covering : (covers : List ℕ) → List (ℕ × ℕ)
most_covering covers = take 3 (ranked_after [] (filter covers_some (enumerate_from 0 covers)))
