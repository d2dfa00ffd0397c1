-- How the seconds that a job covers are counted, entry by entry: a window counts from where earlier ones reach.
use Rattle.std.specs.Prelude.{ℕ, zero, suc, ◌+◌, ◌-◌, min, max, List, [], ◌∷◌, map}

-- the end of what a window has of a span: the second after the latest start, or the span's end
abbrev pub end_of : (latest upto : ℕ) → ℕ
end_of latest upto = min (latest + 1) upto

-- what is counted of a job, as the second before which that is, and the number of seconds: the same after a window
abbrev pub with_window : (second latest upto : ℕ) → ℕ × ℕ → ℕ × ℕ
with_window second latest upto counted =
    (max counted.0 (end_of latest upto), counted.1 + (end_of latest upto - max second counted.0))

-- the same list, but for what is at a place, if there is such a place
abbrev pub changed_at : (ℕ × ℕ → ℕ × ℕ) → (place : ℕ) → List (ℕ × ℕ) → List (ℕ × ℕ)
changed_at change place [] = []
changed_at change zero (x ∷ xs) = change x ∷ xs
changed_at change (suc place) (x ∷ xs) = x ∷ changed_at change place xs

-- the numbers of seconds that are counted
abbrev pub seconds_counted : List (ℕ × ℕ) → List ℕ
seconds_counted counted = map (λ one. one.1) counted
