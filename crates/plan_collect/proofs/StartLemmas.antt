-- A piece's starts fit in entries, since each is in the years that can be planned: for `Collector::keep`.
use Rattle.std.proofs.Common.{◌≡◌, ℕ, ◌-◌, Bool, true, false, cond, ◌&&◌, List, [], ◌∷◌, filter, refl}
use Rattle.std.specs.Prelude.{nat_lt, IsTrue}
use Rattle.std.specs.List.{list_all, range_with_len}
use Rattle.std.proofs.lemmas.Bool.{and_from}
use Rattle.plan_sets.specs.Limits.{end_second}
use Rattle.plan_match.specs.declared.rule.Rule.{Rule}
use Rattle.plan_next.specs.Starts.{is_start, passing, starts}
use Rattle.std.proofs.Common.{arith}
use Rattle.std.proofs.lemmas.Bool.Decides.{nat_tests}

-- seconds in the years that can be planned
abbrev pub AreInYears : List ℕ → Type 0
AreInYears seconds = IsTrue (list_all (λ second. nat_lt second end_second) seconds)

one_in_years :
    (inside passes : Bool) (n : ℕ) (rest : List ℕ) → nat_lt n end_second ≡ inside → AreInYears rest →
    AreInYears (cond (inside && passes) (n ∷ rest) rest)
one_in_years true true n rest is all = and_from (nat_lt n end_second) (list_all (λ second. nat_lt second end_second) rest) is all
one_in_years true false n rest is all = all
one_in_years false passes n rest is all = all

all_in_years : (rule : Rule) (seconds : List ℕ) → AreInYears (filter (is_start rule) seconds)
all_in_years rule [] = refl
all_in_years rule (n ∷ seconds) = grind (arith, nat_tests, one_in_years, all_in_years rule seconds)

-- the starts of a rule
pub starts-in_years : (rule : Rule) (a b : ℕ) → AreInYears (starts rule a b)
unfolding passing
starts-in_years rule a b = all_in_years rule (range_with_len a (b - a))
