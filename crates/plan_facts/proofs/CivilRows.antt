-- Known seconds, as theorems about the definition of civil fields.
use Rattle.std.proofs.Common.{◌≡◌, ◌+◌, refl}
use Rattle.plan_sets.specs.Limits.{end_second, last_year}
use Rattle.plan_sets.specs.Civil.{civil_fields}
use Rattle.plan_facts.proofs.OnTexts.{on_civil}

-- the first second is on a Thursday
the_epoch : civil_fields 0 ≡ record { year = 1970; month = 1; day = 1; weekday = 3; hour = 0; minute = 0; second = 0 }
unfolding on_civil
the_epoch = refl

-- 2000 has a leap day, a Tuesday
leap_day_of_2000 : civil_fields 951_782_400 ≡ record { year = 2000; month = 2; day = 29; weekday = 1; hour = 0; minute = 0; second = 0 }
unfolding on_civil
leap_day_of_2000 = refl

-- a time of day
with_a_time : civil_fields 1_700_000_000 ≡ record { year = 2023; month = 11; day = 14; weekday = 1; hour = 22; minute = 13; second = 20 }
unfolding on_civil
with_a_time = refl

-- 2100 has no leap day
after_february_2100 : civil_fields 4_107_542_400 ≡ record { year = 2100; month = 3; day = 1; weekday = 0; hour = 0; minute = 0; second = 0 }
unfolding on_civil
after_february_2100 = refl

-- the second after the last year is the first of the next one
the_end : civil_fields end_second ≡ record { year = last_year + 1; month = 1; day = 1; weekday = 2; hour = 0; minute = 0; second = 0 }
unfolding on_civil
the_end = refl
