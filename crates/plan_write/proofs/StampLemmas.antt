-- The text of a time becomes that of another one of the same day, if the digits of its hour, minute and second are replaced; and
-- of the same minute, if those of its second are. For `change` of `Stamp`.
use Rattle.std.proofs.Common.{◌≡◌, ℕ, ◌+◌, ◌*◌, ◌/◌, ◌%◌, ◌<◌, List, ◌++◌, take, drop, pos, refl, arith, codes}
use Rattle.plan_sets.specs.Limits.{first_year, seconds_a_day}
use Rattle.plan_sets.specs.Civil.{civil_fields, year_and_day, month_and_day}
use Rattle.plan_sets.specs.Moment.{moment_text_of, two_digits, written_text}
use Rattle.plan_write.specs.Stamp.{stamp_text}
use Rattle.std.proofs.lemmas.Bool.Decides.{nat_tests}

-- a text whose digits of two places from this one on are replaced
abbrev pub replaced : (place : ℕ) → (digits : ℕ) → List ℕ → List ℕ
replaced place digits text = take place text ++ (two_digits digits ++ drop 2 (drop place text))

-- the text of a time by the number of its day, its hour, its minute and its second, and a tab
abbrev text_of : (day hour minute second : ℕ) → List ℕ
text_of day hour minute second =
    let in_year = year_and_day day first_year day in
    let in_month = month_and_day 11 (pos in_year.0) 1 in_year.1 in
    written_text (record {
      year = in_year.0;
      month = in_month.0;
      day = in_month.1;
      hour = hour;
      minute = minute;
      second = second;
    }) ++ codes "\t"

in_parts :
    (n : ℕ) →
    stamp_text n ≡ text_of (n / seconds_a_day) (n % seconds_a_day / 3600) (n % seconds_a_day / 60 % 60) (n % seconds_a_day % 60)
unfolding moment_text_of civil_fields
in_parts n = refl

-- the text of a time becomes that of another one of the same minute, if its second is replaced
pub other_second :
    (n m place : ℕ) (text : List ℕ) → text ≡ stamp_text n → n / 60 * 60 + place ≡ m → place < 60 →
    replaced 17 place text ≡ stamp_text m
other_second n m place text is here before = grind (arith, nat_tests, in_parts)

-- the text of a time becomes that of another one of the same day, if its hour, its minute and its second are replaced
pub other_time :
    (n m time : ℕ) (text : List ℕ) → text ≡ stamp_text n → n / seconds_a_day * seconds_a_day + time ≡ m → time < seconds_a_day →
    replaced 17 (time % 60) (replaced 14 (time / 60 % 60) (replaced 11 (time / 3600) text)) ≡ stamp_text m
other_time n m time text is here before = grind (arith, nat_tests, in_parts)

-- the text of a time without its tab
pub moment_front : (n : ℕ) → take 20 (stamp_text n) ≡ moment_text_of n
unfolding moment_text_of
moment_front n = refl

-- and without the letter of UTC
pub date_time_front : (n : ℕ) → take 19 (stamp_text n) ≡ take 19 (moment_text_of n)
unfolding moment_text_of
date_time_front n = refl

-- the text of a time is its date, its time of day and the letter of UTC
pub date_time_utc : (n : ℕ) → take 19 (moment_text_of n) ++ codes "Z" ≡ moment_text_of n
unfolding moment_text_of
date_time_utc n = refl
