-- How a calendar event is encoded as numbers, sets and truth values, so that a proof can tell two events apart.
use Rattle.std.specs.Prelude.{◌≡◌, Bool, true, false, List, Option, refl}
use Rattle.std.specs.Coded.{Coded, code_by, coded×, coded_bool, coded_list, coded_option}
use Rattle.plan_sets.specs.Values.{Values, values_code}
use Rattle.plan_clock.specs.declared.row.Change.{Change}
use Rattle.plan_clock.specs.Rows.{change_code}
use Rattle.plan_match.specs.declared.event.DayCount.{DayCount}
use Rattle.plan_match.specs.declared.event.DayCount.TheVariants.{FromStart, FromEnd}
use Rattle.plan_match.specs.declared.event.Calendar.{Calendar}

-- whether the days are counted from the end of the month
abbrev pub is_from_end : DayCount → Bool
is_from_end FromStart = false
is_from_end FromEnd = true

-- the direction that such a truth value encodes
abbrev pub count_if : Bool → DayCount
count_if false = FromStart
count_if true = FromEnd

pub count_if-is_from_end : (count : DayCount) → count_if (is_from_end count) ≡ count
count_if-is_from_end FromStart = refl
count_if-is_from_end FromEnd = refl

-- the direction in which days are counted, as a truth value
abbrev pub count_code : Coded DayCount
count_code = code_by Bool coded_bool is_from_end count_if count_if-is_from_end

-- the parts of an event, as nested pairs
abbrev pub Parts : Type 0
Parts = (Values × Values) × (((Values × DayCount) × (Values × Values)) × ((Values × Option Values) × (Bool × List Change)))

-- the code of the parts
abbrev pub parts_code : Coded Parts
parts_code =
    coded× (coded× values_code values_code)
    (coded× (coded× (coded× values_code count_code) (coded× values_code values_code))
    (coded× (coded× values_code (coded_option values_code)) (coded× coded_bool (coded_list change_code))))

-- the code of an event, from that of its parts
abbrev pub calendar_code : Coded Calendar
calendar_code =
    code_by Parts parts_code
    (λ e. ((e.years, e.months), (((e.days, e.day_count), (e.hours, e.minutes)), ((e.seconds, e.weekdays), (e.names_zone, e.clock)))))
    (λ p. record {
      years = p.0.0;
      months = p.0.1;
      days = p.1.0.0.0;
      day_count = p.1.0.0.1;
      hours = p.1.0.1.0;
      minutes = p.1.0.1.1;
      seconds = p.1.1.0.0;
      weekdays = p.1.1.0.1;
      names_zone = p.1.1.1.0;
      clock = p.1.1.1.1;
    })
    (λ _. refl)
