-- Worked rows of weeks. They answer no goal of a function, but test the text of a week, and the hours that a clock shows.
use Rattle.std.proofs.Common.{◌≡◌, ℕ, List, [], ◌∷◌, codes, Option, Some, None, pos, negsuc, refl}
use Rattle.std.specs.Fmt.{digits}
use Rattle.plan_clock.specs.Rows.{row_at}
use Rattle.plan_clock.specs.declared.row.Change.{Change}
use Rattle.plan_sets.specs.Civil.{civil_fields, month_and_day, year_and_day}
use Rattle.plan_sets.specs.Moment.{moment_text_of}
use Rattle.plan_week.specs.Hours.{hour_at, local_second}
use Rattle.plan_week.specs.Texts.{all_hours, all_row, day_objects, day_row}
use Rattle.plan_week.specs.declared.day.Day.{Day}

-- six hours without starts
none : List (Option ℕ)
none = Some 0 ∷ Some 0 ∷ Some 0 ∷ Some 0 ∷ Some 0 ∷ Some 0 ∷ []

-- Saturday, 2024-06-01
saturday : Day
saturday = record {
  number = 19875;
  hours = Some 1 ∷ Some 1 ∷ Some 0 ∷ Some 0 ∷ Some 0 ∷ Some 0 ∷ Some 1 ∷ Some 0 ∷ Some 15 ∷ Some 15 ∷ Some 15 ∷ Some 15
      ∷ Some 1 ∷ Some 9 ∷ Some 0 ∷ Some 0 ∷ Some 0 ∷ Some 0 ∷ none;
}

-- the day after it, of which the first two hours are in the span
sunday : Day
sunday = record {
  number = 19876;
  hours = Some 0 ∷ Some 1000000 ∷ None ∷ None ∷ None ∷ None ∷ None ∷ None ∷ None ∷ None ∷ None ∷ None
      ∷ None ∷ None ∷ None ∷ None ∷ None ∷ None ∷ None ∷ None ∷ None ∷ None ∷ None ∷ None ∷ [];
}

row_of_saturday : day_row saturday ≡ codes "Sat 2024-06-01  1 1 . . . . 1 . # # # # 1 9 . . . . . . . . . .     73\n"
unfolding digits moment_text_of civil_fields year_and_day month_and_day saturday none
row_of_saturday = refl

-- a wide number makes the line longer
row_of_sunday : day_row sunday ≡ codes "Sun 2024-06-02  . #                                             1000000\n"
unfolding digits moment_text_of civil_fields year_and_day month_and_day sunday
row_of_sunday = refl

row_of_both : all_row (saturday ∷ sunday ∷ []) ≡ codes "all days        1 # . . . . 1 . # # # # 1 9 . . . . . . . . . . 1000073\n"
unfolding digits all_hours saturday sunday none
row_of_both = refl

objects_of_sunday : day_objects sunday ≡ codes "{\"day\":\"2024-06-02\",\"hour\":1,\"starts\":1000000}\n"
unfolding digits moment_text_of civil_fields year_and_day month_and_day sunday
objects_of_sunday = refl

-- a clock that is put back by an hour at 2024-10-27T01:00:00Z
clock : List Change
clock = record { second = 0; offset = pos 7200 } ∷ record { second = 1729990800; offset = pos 3600 } ∷ []

-- hour 2 of 2024-10-27 is shown twice
before : hour_at clock 1729987200 ≡ 480554
unfolding local_second row_at clock
before = refl

after : hour_at clock 1729990800 ≡ 480554
unfolding local_second row_at clock
after = refl

-- a time before 1970 stays in UTC
early : hour_at (record { second = 0; offset = negsuc 7199 } ∷ []) 7199 ≡ 1
unfolding local_second row_at
early = refl
