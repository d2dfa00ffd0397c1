-- What is read is in the order of its seconds, which are in the planner's years: for the lines of a `Baseline`.
use Rattle.std.proofs.Common.{◌≡◌, ℕ, zero, suc, ◌+◌, ◌<◌, ◌≤◌, IsTrue, List, [], ◌∷◌, length, map, get_or, None, Some, Ok, Err, refl, arith}
use Rattle.std.specs.Prelude.{nat_le}
use Rattle.std.specs.List.{list_all}
use Rattle.std.proofs.lemmas.Bool.{and_from, and_parts, le-leb, leb-true}
use Rattle.plan_sets.specs.Limits.{end_second}
use Rattle.plan_baseline.specs.declared.lines.Place.{Place}
use Rattle.plan_baseline.specs.declared.tails.Tail.{Tail}
use Rattle.plan_baseline.specs.Line.{AreOrdered, Line, Listing, line_at}
use Rattle.plan_baseline.specs.Reading.{AreRead, IsReading}

-- each line is not before the one before it, and the first is not before a second
abbrev pub AreFrom : (from : ℕ) → List Line → Type 0
AreFrom from [] = Unit {0}
AreFrom from (line ∷ later) = (from ≤ line.second) × (line.second ≤ end_second) × AreFrom line.second later

read_from :
    (left number upto from : ℕ) (text : List ℕ) (lines : List Line) → AreRead left number upto from text (Ok lines) → AreFrom from lines
unfolding AreRead
read_from zero number upto from [] lines is = let none : lines ≡ [] = cc in rw none tt
read_from zero number upto from (b ∷ more) lines is = absurd cc
read_from (suc left) number upto from text lines (None, none, is) = absurd cc
read_from (suc left) number upto from text lines (Some (line, rest), (bytes, cut, own), (Err n, are, same)) = absurd cc
read_from (suc left) number upto from text lines (Some (line, rest), (bytes, cut, own), (Ok later, are, same)) =
    let all : lines ≡ line ∷ later = cc in
    rw all (own.after, own.time_is.0, read_from left (number + 1) upto line.second rest later are)

line_from :
    (from : ℕ) (lines : List Line) → AreFrom from lines → (place : ℕ) (other : Line) → place < length lines →
    from ≤ (get_or lines place other).second
line_from from [] are place other lt = absurd (omega arith)
line_from from (line ∷ later) are zero other lt = are.0
line_from from (line ∷ later) are (suc place) other lt =
    let next = line_from line.second later are.2 place other (omega arith) in omega (arith, are.0)

ascends : (from : ℕ) (lines : List Line) → AreFrom from lines → (i j : ℕ) (other : Line) → i ≤ j → j < length lines →
    (get_or lines i other).second ≤ (get_or lines j other).second
ascends from [] are i j other le lt = absurd (omega arith)
ascends from (line ∷ later) are zero zero other le lt = omega arith
ascends from (line ∷ later) are zero (suc j) other le lt = line_from line.second later are.2 j other (omega arith)
ascends from (line ∷ later) are (suc i) zero other le lt = absurd (omega arith)
ascends from (line ∷ later) are (suc i) (suc j) other le lt = ascends line.second later are.2 i j other (omega arith) (omega arith)

in_years : (from : ℕ) (lines : List Line) → AreFrom from lines → IsTrue (list_all (λ line. nat_le line.second end_second) lines)
in_years from [] are = refl
in_years from (line ∷ later) are =
    and_from (nat_le line.second end_second) (list_all (λ one. nat_le one.second end_second) later) (le-leb line.second end_second are.1)
    (in_years line.second later are.2)

-- the lines that are read of a text are ordered
pub ordered : (text : List ℕ) (listing : Listing) → IsReading text (Ok listing) → AreOrdered listing.lines
ordered text listing (None, none, is) = absurd cc
ordered text listing (Some (head, rest), begins, (Err n, are, same)) = absurd cc
ordered text listing (Some (head, rest), begins, (Ok lines, are, same)) =
    let all : listing.lines ≡ lines = cc in
    let from = read_from head.count 2 head.span.upto head.span.since rest lines are in
    rw all (ascends head.span.since lines from, in_years head.span.since lines from)

-- the second at a place is in the planner's years
pub year_at :
    (text : List ℕ) (tails : List Tail) (places : List Place) (number : ℕ) (other : Place) →
    IsTrue (list_all (λ line. nat_le line.second end_second) (map (line_at text tails) places)) → number < length places →
    (get_or places number other).second ≤ end_second
year_at text tails [] number other all lt = absurd (omega arith)
year_at text tails (first ∷ places) zero other all lt =
    leb-true first.second end_second
    (and_parts (nat_le first.second end_second) (list_all (λ one. nat_le one.second end_second) (map (line_at text tails) places)) all).0
year_at text tails (first ∷ places) (suc number) other all lt =
    year_at text tails places number other
    (and_parts (nat_le first.second end_second) (list_all (λ one. nat_le one.second end_second) (map (line_at text tails) places)) all).1
    (omega arith)
