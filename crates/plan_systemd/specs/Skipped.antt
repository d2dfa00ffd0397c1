-- Whether systemd 252 skips starts of an event (docs/DIFFERENCES.md, calendar events). It carries a step without an end past
-- the limit of its component into the next larger one, and skips the values before the carried one.
use Rattle.std.specs.Prelude.{ℕ, ◌+◌, ◌-◌, Bool, false, true, not, ◌&&◌, ◌||◌, List, Option, Some, None, Ok, Err, find}
use Rattle.std.specs.List.{list_any, range_with_len}
use Rattle.plan_sets.specs.declared.item.Item.{Item}
use Rattle.plan_sets.specs.declared.item.Item.TheVariants.{One, Onward, Range}
use Rattle.plan_sets.specs.Items.{belongs}
use Rattle.plan_sets.specs.Limits.{first_year, last_year}
use Rattle.plan_sets.specs.Values.{Values, has_value}
use Rattle.plan_match.specs.declared.event.Calendar.{Calendar}
use Rattle.plan_match.specs.declared.event.DayCount.{DayCount}
use Rattle.plan_match.specs.declared.event.DayCount.TheVariants.{FromStart, FromEnd}
use Rattle.plan_grammar.specs.EventItems.{ItemLists, event_items_reading}
use Rattle.plan_grammar.specs.Readings.{Reading}

-- ---- a component, whose values are from lo to hi

-- an element `a/r`, whose step has no end (systemd.time(7), repetition values)
abbrev pub is_open : Item → Bool
is_open (One a) = false
is_open (Onward a step) = true
is_open (Range a b step) = false

-- systemd counts upwards: the day at place p from the end of its month stands for 32 - p (measured)
abbrev pub counted : DayCount → ℕ → ℕ
counted FromStart v = v
counted FromEnd v = 32 - v

-- the numbers of a step without an end, counted in this way, which may be past the limit, contain n
abbrev pub reaches : DayCount → Item → ℕ → Bool
reaches count (One a) n = false
reaches count (Onward a step) n = belongs (Onward (counted count a) step) n
reaches count (Range a b step) n = false

-- some step without an end reaches n
abbrev pub is_reached : DayCount → List Item → ℕ → Bool
is_reached count items n = list_any (λ item. reaches count item n) items

-- a value of the next round is skipped: no step reaches it, nor a number between the limit and it (measured)
abbrev pub is_skipped : DayCount → List Item → (lo hi v : ℕ) → Bool
is_skipped count items lo hi v = not (list_any (is_reached count items) (range_with_len (hi + 1) (v + 1 - lo)))

-- the least value from lo to hi, counted in this way
abbrev pub least_value : DayCount → Values → (lo hi : ℕ) → Option ℕ
least_value count values lo hi = find (λ v. has_value values (counted count v)) (range_with_len lo (hi + 1 - lo))

-- this value, if there is one, passes a test
abbrev pub passes : (ℕ → Bool) → Option ℕ → Bool
passes test None = false
passes test (Some v) = test v

-- a step without an end skips values: then the least one is skipped
abbrev pub skips_values : DayCount → Values → List Item → (lo hi : ℕ) → Bool
skips_values count values items lo hi =
    list_any is_open items && passes (is_skipped count items lo hi) (least_value count values lo hi)

-- the same, if the limit isn't a value; from the limit systemd goes on without a step (measured)
abbrev pub skips_unless_last : DayCount → Values → List Item → (lo hi : ℕ) → Bool
skips_unless_last count values items lo hi =
    not (has_value values (counted count hi)) && skips_values count values items lo hi

-- ---- the next larger components

-- both values are in the set
abbrev pub has_both : Values → ℕ → ℕ → Bool
has_both values first last = has_value values first && has_value values last

-- some value follows another one
abbrev pub has_successor : Values → (lo hi : ℕ) → Bool
has_successor values lo hi = list_any (λ v. has_both values v (v + 1)) (range_with_len lo (hi - lo))

-- the same, if the least possible value follows the greatest one, such as hour 0 hour 23
abbrev pub has_neighbours : Values → (lo hi : ℕ) → Bool
has_neighbours values lo hi = has_successor values lo hi || has_both values lo hi

-- the first day of a month, and one that can be the last
abbrev pub has_month_ends : Values → Bool
has_month_ends days = has_value days 1 && list_any (has_value days) (range_with_len 28 4)

-- two days may follow each other, counted as the event counts them
abbrev pub days_follow : Values → Bool
days_follow days = has_successor days 1 31 || has_month_ends days

-- two weekdays follow each other; without a weekday part all do
abbrev pub weekdays_follow : Option Values → Bool
weekdays_follow None = true
weekdays_follow (Some weekdays) = has_neighbours weekdays 0 6

-- ---- an event

-- seconds are skipped where the last minute of an hour goes on to the next hour
abbrev pub seconds_skip : Calendar → ItemLists → Bool
seconds_skip event items =
    skips_values FromStart event.seconds items.seconds.items 0 59 && (has_both event.minutes 0 59 && has_neighbours event.hours 0 23)

-- minutes are skipped where the last hour of a day goes on to the next day
abbrev pub minutes_skip : Calendar → ItemLists → Bool
minutes_skip event items =
    skips_unless_last FromStart event.minutes items.minutes.items 0 59
    && (has_both event.hours 0 23 && (days_follow event.days && weekdays_follow event.weekdays))

-- hours are skipped where the last day of a month goes on to the next month
abbrev pub hours_skip : Calendar → ItemLists → Bool
hours_skip event items =
    skips_unless_last FromStart event.hours items.hours.items 0 23
    && (has_month_ends event.days && (has_neighbours event.months 1 12 && weekdays_follow event.weekdays))

-- days are skipped where December goes on to the next year
abbrev pub days_skip : Calendar → ItemLists → Bool
days_skip event items =
    skips_unless_last event.day_count event.days items.days.items 1 31
    && (has_both event.months 1 12 && has_successor event.years first_year last_year)

-- some component has values that are skipped (measured)
abbrev pub event_skips : Calendar → ItemLists → Bool
event_skips event items = seconds_skip event items || (minutes_skip event items || (hours_skip event items || days_skip event items))

-- the same, by the elements of the event's text
abbrev pub skips_by : Calendar → Reading ItemLists → Bool
skips_by event (Ok items) = event_skips event items
skips_by event (Err fault) = false

-- systemd 252 may skip starts of an event with this text
abbrev pub may_skip_starts : (text : List ℕ) → Calendar → Bool
may_skip_starts text event = skips_by event (event_items_reading text)
