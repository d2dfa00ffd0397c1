-- The lines of errors of questions about a machine, which are in words. All of it is our choice (agenda).
use Rattle.std.specs.Prelude.{ℕ, List, ◌++◌, Option, None, Some, codes, decimal}
use Rattle.plan_times.specs.declared.fault.TimeFault.{TimeFault}
use Rattle.plan_times.specs.declared.fault.TimeFault.TheVariants.{BadTime, OutOfYears}
use Rattle.plan_zones.specs.declared.zone_fault.ZoneFault.{ZoneFault}
use Rattle.plan_zones.specs.declared.zone_fault.ZoneFault.TheVariants as zone
use Rattle.agenda_faults.specs.declared.machine_faults.MachineFault.{MachineFault}
use Rattle.agenda_faults.specs.declared.machine_faults.MachineFault.TheVariants.{Time, Length, Number, Backwards, EmptySpan, NothingExcepted, NothingChosen, Zone, Clock}
use Rattle.agenda_faults.specs.declared.machine_faults.NumberOption.{NumberOption}
use Rattle.agenda_faults.specs.declared.machine_faults.NumberOption.TheVariants as number
use Rattle.agenda_faults.specs.declared.machine_faults.TimeOption.{TimeOption}
use Rattle.agenda_faults.specs.declared.machine_faults.TimeOption.TheVariants as option

-- an allocation failed
abbrev pub memory_line : List ℕ
memory_line = codes "agenda: NoMemory\n"

-- the name of an option that gives a time
abbrev pub option_name : TimeOption → List ℕ
option_name option.After = codes "--after"
option_name option.Since = codes "--since"
option_name option.Until = codes "--until"

-- what is wrong with the text of an option, and the text
abbrev pub time_words : TimeFault → (text : List ℕ) → List ℕ
time_words BadTime text =
    codes ": not a time: '" ++ (text ++ codes "' (such as 'tomorrow 02:00', '+8h', '2026-12-01 22:00') [BadTime]\n")
time_words OutOfYears text = codes ": before 1970 or after 2999: '" ++ (text ++ codes "' [OutOfYears]\n")

-- an option whose text is not a time
abbrev pub time_line : TimeOption → TimeFault → (text : List ℕ) → List ℕ
time_line option fault text = codes "agenda: " ++ (option_name option ++ time_words fault text)

-- the name of an option that gives a number
abbrev pub number_name : NumberOption → List ℕ
number_name number.Count = codes "--count"
number_name number.Limit = codes "--limit"
number_name number.Planners = codes "--planners"
number_name number.Room = codes "--room"

-- the greatest number that it may have; the least is 1
abbrev pub most_of : NumberOption → ℕ
most_of number.Count = 1000
most_of number.Limit = 1000000
most_of number.Planners = 8
most_of number.Room = 1024

-- the code of a number that is out of its range
abbrev pub number_code : NumberOption → List ℕ
number_code number.Count = codes "BadCount"
number_code number.Limit = codes "BadLimit"
number_code number.Planners = codes "BadSize"
number_code number.Room = codes "BadSize"

-- the range of an option, before a number that is not in it
abbrev pub range_words : NumberOption → List ℕ
range_words option = codes ": not from 1 to " ++ (decimal (most_of option) ++ codes ": '")

-- an option whose number is out of its range
abbrev pub number_line : NumberOption → (number : ℕ) → List ℕ
number_line option number =
    codes "agenda: " ++ (number_name option ++ (range_words option ++ (decimal number ++ (codes "' [" ++ (number_code option ++ codes "]\n")))))

-- a span whose end is before its start, of which this is the text
abbrev pub backwards_line : (since : List ℕ) → List ℕ
backwards_line since = codes "agenda: --until is before --since (" ++ (since ++ codes ") [Backwards]\n")

-- a span that is to be clear and whose end is its start, of which this is the text
abbrev pub empty_span_line : (since : List ℕ) → List ℕ
empty_span_line since = codes "agenda: --until is not after --since (" ++ (since ++ codes ") [EmptySpan]\n")

-- a zone that can't be used, with what is wrong with it
abbrev pub zone_line_with : (text words : List ℕ) → List ℕ
zone_line_with text words = codes "agenda: zone '" ++ (text ++ words)

-- a zone that doesn't exist, with the name of the zone that may be meant, if there is one
abbrev pub no_zone_line : (text : List ℕ) → (like : Option (List ℕ)) → List ℕ
no_zone_line text None = zone_line_with text (codes "': no such zone [NoSuchZone]\n")
no_zone_line text (Some name) =
    zone_line_with text (codes "': no such zone; did you mean " ++ (name ++ codes "? [NoSuchZone]\n"))

-- a zone that can't be used. If an allocation failed, the zone is not named
abbrev pub named_zone_line : (text : List ℕ) → ZoneFault → (like : Option (List ℕ)) → List ℕ
named_zone_line text zone.NoMemory like = memory_line
named_zone_line text zone.BadZoneName like = zone_line_with text (codes "': not the name of a zone [BadZoneName]\n")
named_zone_line text zone.NoSuchZone like = no_zone_line text like
named_zone_line text zone.TooLarge like = zone_line_with text (codes "': larger than 1048576 bytes [TooLarge]\n")
named_zone_line text zone.BadZone like = zone_line_with text (codes "': not a TZif file [BadZone]\n")

-- an answer with more starts than a limit
abbrev pub too_many_line : (limit : ℕ) → List ℕ
too_many_line limit =
    codes "agenda: more than " ++ (decimal limit ++ codes " starts: give a shorter span, or --limit N [TooMany]\n")

-- a question about a machine that can't be answered
abbrev pub machine_line : MachineFault → List ℕ
machine_line (Time option fault text) = time_line option fault text
machine_line (Length text) =
    codes "agenda: --least: not a length: '" ++ (text ++ codes "' (such as '90min' or '2h') [BadLength]\n")
machine_line (Number option number) = number_line option number
machine_line (Backwards since) = backwards_line since
machine_line (EmptySpan since) = empty_span_line since
machine_line (NothingExcepted pattern) = codes "agenda: --except: nothing is named '" ++ (pattern ++ codes "' [NothingNamed]\n")
machine_line (NothingChosen pattern) = codes "agenda: --only: nothing is named '" ++ (pattern ++ codes "' [NothingNamed]\n")
machine_line (Zone text fault like) = named_zone_line text fault like
machine_line Clock = codes "agenda: the system clock is after 2999: set it [OutOfYears]\n"
