-- The elements of calendar events that systemd 252 rejects or reads otherwise, and what to write instead.
use Rattle.std.specs.Prelude.{ℕ, ◌+◌, ◌-◌, ◌%◌, Bool, false, not, ◌&&◌, ◌==◌, nat_lt, if◌then◌else◌, List, [], ◌++◌, codes, find, Option, Some, None}
use Rattle.std.specs.Fmt.{decimal}
use Rattle.std.specs.List.{zip}
use Rattle.std.specs.Option.{option_map}
use Rattle.std.specs.Str.{byte, bytes_eq}
use Rattle.std.specs.Str.Lossy.{utf8_lossy}
use Rattle.plan_sets.specs.declared.item.Item.{Item}
use Rattle.plan_sets.specs.declared.item.Item.TheVariants.{One, Onward, Range}
use Rattle.plan_texts.specs.Text.{begins_with, cut_at, pieces}
use Rattle.plan_grammar.specs.declared.component.Component.{Component}
use Rattle.plan_grammar.specs.declared.component.Component.TheVariants.{Year, Place}
use Rattle.plan_grammar.specs.Event.{greatest_of, holds_byte, least_of}
use Rattle.plan_grammar.specs.EventItems.{Elements}
use Rattle.plan_systemd.specs.declared.flaw.Flaw.{Flaw}
use Rattle.plan_systemd.specs.declared.flaw.Flawed.{Flawed}
use Rattle.plan_systemd.specs.declared.flaw.Flaw.TheVariants as flaw

-- an element: as it is written, and what it means
abbrev pub Element : Type 0
Element = List ℕ × Item

-- the elements of a component; commas separate them (systemd.time(7), lists)
abbrev pub elements_in : Elements → List Element
elements_in elements = zip (pieces (byte ",") elements.text) elements.items

-- ---- what systemd rejects

-- the last year of systemd 252
abbrev pub systemd_last_year : ℕ
systemd_last_year = 2199

-- the greatest value of a component in systemd 252
abbrev pub systemd_greatest : Component → ℕ
systemd_greatest Year = systemd_last_year
systemd_greatest component = greatest_of component

-- the last value of a range with a step
abbrev pub last_in_range : (first last step : ℕ) → ℕ
last_in_range first last step = last - (last - first) % step

-- `a/r` has no second value: systemd 252 wants one, which is smaller where days count from the end of the month
abbrev pub never_fits : Component → Item → Bool
never_fits Place (Onward a step) = nat_lt a (step + 1)
never_fits component (Onward a step) = nat_lt (systemd_greatest component) (a + step)
never_fits component (One a) = false
never_fits component (Range a b step) = false

-- a year, or the last year of a range, is after systemd's last one
abbrev pub is_late_year : Item → Bool
is_late_year (One a) = nat_lt systemd_last_year a
is_late_year (Onward a step) = nat_lt systemd_last_year a
is_late_year (Range a b step) = nat_lt systemd_last_year (last_in_range a b step)

-- a range from a value to the same value
abbrev pub is_one_value : Item → Bool
is_one_value (One a) = false
is_one_value (Onward a step) = false
is_one_value (Range a b step) = a == b

-- a step that is too large for seconds: systemd 252 counts them in microseconds, up to 2 ^ 31
abbrev pub is_long_step : Item → Bool
is_long_step (One a) = false
is_long_step (Onward a step) = nat_lt 2147 step
is_long_step (Range a b step) = nat_lt 2147 step

-- a range that ends before it begins, which agenda accepts in days from the end of the month
abbrev pub is_backwards : Item → Bool
is_backwards (One a) = false
is_backwards (Onward a step) = false
is_backwards (Range a b step) = nat_lt b a

-- a range with a step that doesn't lead from its first to its last value: of days from the end of the month, systemd 252
-- takes a, a + r and so on, and agenda b, b - r and so on
abbrev pub is_read_otherwise : Item → Bool
is_read_otherwise (One a) = false
is_read_otherwise (Onward a step) = false
is_read_otherwise (Range a b step) = not ((b - a) % step == 0)

-- an element has a flaw
abbrev pub has_flaw : Flaw → Element → Bool
has_flaw (flaw.Star component) element = begins_with (λ b. b == byte "*") element.0
has_flaw (flaw.NeverFits component) element = never_fits component element.1
has_flaw flaw.LateYear element = is_late_year element.1
has_flaw flaw.OneSecond element = is_one_value element.1 && not (holds_byte (byte "/") element.0)
has_flaw flaw.LongStep element = is_long_step element.1
has_flaw flaw.Backwards element = is_backwards element.1
has_flaw flaw.ReadOtherwise element = is_read_otherwise element.1

-- ---- what to write instead

-- a part of an element, as it is shown; those of an accepted event are ASCII, so nothing is replaced
abbrev pub shown : List ℕ → List ℕ
shown text = utf8_lossy text

-- what to write, and for what
abbrev pub instead : (new old : List ℕ) → List ℕ
instead new old = codes "write " ++ (new ++ (codes " for " ++ shown old))

-- what comes before a mark
abbrev pub before_mark : Option (List ℕ × List ℕ) → List ℕ
before_mark None = []
before_mark (Some cut) = shown cut.0

-- the step of an element, with its slash
abbrev pub step_text : Option (List ℕ × List ℕ) → List ℕ
step_text None = []
step_text (Some cut) = codes "/" ++ shown cut.1

-- `*` with a step stands for the least value with the step; `*` beside other elements has to stand alone
abbrev pub star_hint : ℕ → List ℕ → Option (List ℕ × List ℕ) → List ℕ
star_hint least text None = codes "write * alone"
star_hint least text (Some cut) = instead (decimal least ++ step_text (Some cut)) text

-- a range of numbers with the step of an element
abbrev pub range_text : (first last : ℕ) → List ℕ → List ℕ
range_text first last text = decimal first ++ (codes ".." ++ (decimal last ++ step_text (cut_at (codes "/") text)))

-- the range that ends with the first value of a backwards range and has the same days
abbrev pub turned : Item → List ℕ → List ℕ
turned (One a) text = shown text
turned (Onward a step) text = shown text
turned (Range a b step) text = range_text (b + (a - b) % step) a text

-- the range that ends with the last value that systemd 252 takes
abbrev pub shortened : Item → List ℕ → List ℕ
shortened (One a) text = shown text
shortened (Onward a step) text = shown text
shortened (Range a b step) text = range_text a (last_in_range a b step) text

-- what to do about an element with this flaw
abbrev pub flaw_hint : Flaw → Element → List ℕ
flaw_hint (flaw.Star component) element = star_hint (least_of component) element.0 (cut_at (codes "/") element.0)
flaw_hint (flaw.NeverFits component) element =
    codes "the step never fits: " ++ instead (before_mark (cut_at (codes "/") element.0)) element.0
flaw_hint flaw.LateYear element = codes "years end at 2199"
flaw_hint flaw.OneSecond element = instead (before_mark (cut_at (codes "..") element.0)) element.0
flaw_hint flaw.LongStep element = codes "a step of seconds is at most 2147"
flaw_hint flaw.Backwards element = instead (turned element.1 element.0) element.0
flaw_hint flaw.ReadOtherwise element = instead (shortened element.1 element.0) element.0

-- what to do about the first element of a component that has this flaw; `*` alone has none
abbrev pub hint_in : Flaw → Elements → Option (List ℕ)
hint_in kind elements =
    if bytes_eq elements.text (codes "*") then None
    else option_map (flaw_hint kind) (find (has_flaw kind) (elements_in elements))

-- what to do about an element that was found
abbrev pub found_hint : Flawed → List ℕ
found_hint found = flaw_hint found.flaw (found.text.now, found.item)
