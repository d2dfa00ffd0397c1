-- The words of a sentence, and how they are spelled.
use Rattle.std.specs.Prelude.{ℕ, zero, suc, ◌+◌, ◌/◌, ◌%◌, Bool, true, false, ◌||◌, ◌==◌, nat_lt, if◌then◌else◌, List, [], ◌∷◌, ◌++◌, codes}
use Rattle.std.specs.List.{flat_map}
pub use Rattle.plan_words.specs.declared.words.Keyword.{Keyword}
pub use Rattle.plan_words.specs.declared.words.Keyword.TheVariants.{At, Every, From, To, Of, And, Comma, On, The, Last, ADay, Days, Odd, Even, Each, AMonth, Year, In, But, Only, Also, Where, It, They, Exists, Exist}
pub use Rattle.plan_words.specs.declared.words.Word.{Word}
pub use Rattle.plan_words.specs.declared.words.Word.TheVariants.{Key, Number, Ordinal, Clock, ClockSeconds, ADayOfWeek, DaysOfWeek, NameOfMonth, OneUnit, ManyUnits}
use Rattle.plan_words.specs.declared.names.TimeUnit.{TimeUnit}
use Rattle.plan_words.specs.declared.names.TimeUnit.TheVariants.{Second, Minute, Hour}
use Rattle.plan_words.specs.declared.names.Weekday.{Weekday}
use Rattle.plan_words.specs.declared.names.Weekday.TheVariants as day
use Rattle.plan_words.specs.declared.names.Month.{Month}
use Rattle.plan_words.specs.declared.names.Month.TheVariants as month

-- the place of a keyword in this list
abbrev pub index : Keyword → ℕ
index At = 0
index Every = 1
index From = 2
index To = 3
index Of = 4
index And = 5
index Comma = 6
index On = 7
index The = 8
index Last = 9
index ADay = 10
index Days = 11
index Odd = 12
index Even = 13
index Each = 14
index AMonth = 15
index Year = 16
index In = 17
index But = 18
index Only = 19
index Also = 20
index Where = 21
index It = 22
index They = 23
index Exists = 24
index Exist = 25

-- ---- spelling

-- the text of a word that doesn't vary
abbrev pub keyword_text : Keyword → List ℕ
keyword_text At = codes "at"
keyword_text Every = codes "every"
keyword_text From = codes "from"
keyword_text To = codes "to"
keyword_text Of = codes "of"
keyword_text And = codes "and"
keyword_text Comma = codes ","
keyword_text On = codes "on"
keyword_text The = codes "the"
keyword_text Last = codes "last"
keyword_text ADay = codes "day"
keyword_text Days = codes "days"
keyword_text Odd = codes "odd"
keyword_text Even = codes "even"
keyword_text Each = codes "each"
keyword_text AMonth = codes "month"
keyword_text Year = codes "year"
keyword_text In = codes "in"
keyword_text But = codes "but"
keyword_text Only = codes "only"
keyword_text Also = codes "also"
keyword_text Where = codes "where"
keyword_text It = codes "it"
keyword_text They = codes "they"
keyword_text Exists = codes "exists"
keyword_text Exist = codes "exist"

-- a unit
abbrev pub unit_text : TimeUnit → List ℕ
unit_text Second = codes "second"
unit_text Minute = codes "minute"
unit_text Hour = codes "hour"

-- a unit in the plural
abbrev pub units_text : TimeUnit → List ℕ
units_text Second = codes "seconds"
units_text Minute = codes "minutes"
units_text Hour = codes "hours"

-- a weekday
abbrev pub weekday_text : Weekday → List ℕ
weekday_text day.Monday = codes "Monday"
weekday_text day.Tuesday = codes "Tuesday"
weekday_text day.Wednesday = codes "Wednesday"
weekday_text day.Thursday = codes "Thursday"
weekday_text day.Friday = codes "Friday"
weekday_text day.Saturday = codes "Saturday"
weekday_text day.Sunday = codes "Sunday"

-- a weekday in the plural
abbrev pub weekdays_text : Weekday → List ℕ
weekdays_text day.Monday = codes "Mondays"
weekdays_text day.Tuesday = codes "Tuesdays"
weekdays_text day.Wednesday = codes "Wednesdays"
weekdays_text day.Thursday = codes "Thursdays"
weekdays_text day.Friday = codes "Fridays"
weekdays_text day.Saturday = codes "Saturdays"
weekdays_text day.Sunday = codes "Sundays"

-- a month
abbrev pub month_text : Month → List ℕ
month_text month.January = codes "January"
month_text month.February = codes "February"
month_text month.March = codes "March"
month_text month.April = codes "April"
month_text month.May = codes "May"
month_text month.June = codes "June"
month_text month.July = codes "July"
month_text month.August = codes "August"
month_text month.September = codes "September"
month_text month.October = codes "October"
month_text month.November = codes "November"
month_text month.December = codes "December"

-- the decimal digits of a number, of which at most so many are left
unfoldable pub numeral_by : ℕ → ℕ → List ℕ
numeral_by zero n = []
numeral_by (suc k) n = elim (nat_lt n 10) [ true ↦ (48 + n) ∷ [] | false ↦ numeral_by k (n / 10) ++ (48 + n % 10) ∷ [] ]

-- a number in decimal without leading zeros
abbrev pub numeral : ℕ → List ℕ
numeral n = numeral_by (suc n) n

-- a number with two digits at least
abbrev pub two_digits : ℕ → List ℕ
two_digits n = (if nat_lt n 10 then codes "0" else []) ++ numeral n

-- "th" for 11, 12 and 13 and numbers that end so; else by the last digit
abbrev pub ending : ℕ → List ℕ
ending n =
    if (n % 100 == 11) || ((n % 100 == 12) || (n % 100 == 13)) then codes "th"
    else (if n % 10 == 1 then codes "st" else (if n % 10 == 2 then codes "nd" else (if n % 10 == 3 then codes "rd" else codes "th")))

-- a word without the blank before it
abbrev pub word_text : Word → List ℕ
word_text (Key k) = keyword_text k
word_text (Number n) = numeral n
word_text (Ordinal n) = numeral n ++ ending n
word_text (Clock h m) = two_digits h ++ (codes ":" ++ two_digits m)
word_text (ClockSeconds h m s) = two_digits h ++ (codes ":" ++ (two_digits m ++ (codes ":" ++ two_digits s)))
word_text (ADayOfWeek w) = weekday_text w
word_text (DaysOfWeek w) = weekdays_text w
word_text (NameOfMonth m) = month_text m
word_text (OneUnit u) = unit_text u
word_text (ManyUnits u) = units_text u

-- whether a word is this keyword
abbrev pub is_keyword : Keyword → Word → Bool
is_keyword k (Key j) = index k == index j
is_keyword k _ = false

-- a word with the blank before it; there is none before a comma
abbrev pub spelling : Word → List ℕ
spelling w = (if is_keyword Comma w then [] else codes " ") ++ word_text w

-- words with the blanks before them
abbrev pub spelled : List Word → List ℕ
spelled words = flat_map spelling words

-- words, of which the first has no blank before it
abbrev pub text_of_words : List Word → List ℕ
text_of_words [] = []
text_of_words (w ∷ words) = word_text w ++ spelled words
