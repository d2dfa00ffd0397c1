-- Series of seconds of the day: numbers that are evenly spaced, and the times of day that sums of them are (agenda).
use Rattle.std.specs.Prelude.{ℕ, ◌+◌, ◌-◌, ◌*◌, Bool, true, false, ◌&&◌, ◌==◌, nat_lt, if◌then◌else◌, List, [], ◌∷◌}
use Rattle.plan_words.specs.Meaning.{steps_have}
use Rattle.plan_describe.specs.declared.series.Series.{Series}
use Rattle.plan_describe.specs.declared.series.Series.TheVariants.{One, Even, Uneven}
use Rattle.plan_words.specs.declared.tree.Span.{Span}
use Rattle.plan_describe.specs.Numbers.{is_spaced, last_of}

-- the numbers of a series; nothing is known of those that aren't evenly spaced
abbrev pub series_has : Series → ℕ → Bool
series_has (One v) u = v == u
series_has (Even first last step) u = steps_have first last step u
series_has Uneven u = false

abbrev pub is_series : Series → Bool
is_series (One v) = true
is_series (Even first last step) = true
is_series Uneven = false

-- the numbers of a list
abbrev pub series_of : List ℕ → Series
series_of [] = Uneven
series_of (v ∷ []) = One v
series_of (v ∷ w ∷ more) = if nat_lt v w && is_spaced (w - v) w more then Even v (last_of w more) (w - v) else Uneven

-- the numbers of a span
abbrev pub series_of_span : Span → Series
series_of_span s = if s.first == s.last then One s.first else Even s.first s.last 1

-- each number times a unit
abbrev pub scaled : (unit : ℕ) → Series → Series
scaled unit (One v) = One (unit * v)
scaled unit (Even first last step) = Even (unit * first) (unit * last) (unit * step)
scaled unit Uneven = Uneven

-- all numbers of a series are below a limit
abbrev pub is_below : (limit : ℕ) → Series → Bool
is_below limit (One v) = nat_lt v limit
is_below limit (Even first last step) = nat_lt first limit && (nat_lt last limit && nat_lt step limit)
is_below limit Uneven = false

-- the sums of a number of an outer series, whose numbers are multiples of a unit, and one of an inner series. They are evenly
-- spaced if one of the series is a single number, or if the inner series goes on where the next unit begins
abbrev pub sums_of : Series → (unit : ℕ) → Series → Series
sums_of (One a) unit (One b) = One (a + b)
sums_of (One a) unit (Even first last step) = Even (a + first) (a + last) step
sums_of (Even first last step) unit (One b) = Even (first + b) (last + b) step
sums_of (Even first last step) unit (Even inner_first inner_last inner_step) =
    if (step == unit) && (inner_first + unit == inner_last + inner_step)
    then Even (first + inner_first) (last + inner_last) inner_step
    else Uneven
sums_of (One a) unit Uneven = Uneven
sums_of (Even first last step) unit Uneven = Uneven
sums_of Uneven unit inner = Uneven

-- a day's number of seconds
abbrev pub day : ℕ
day = 86400

-- the same, within a day and the unit
abbrev pub sums : Series → (unit : ℕ) → Series → Series
sums outer unit inner = if is_below day outer && is_below unit inner then sums_of outer unit inner else Uneven
