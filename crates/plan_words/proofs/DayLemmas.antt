-- Days that were said are read again, with their months and years.
use Rattle.std.proofs.Common.{◌≡◌, ℕ, Bool, true, false, ◌&&◌, ◌==◌, if◌then◌else◌, List, [], ◌∷◌, ◌++◌, Option, Some, None, refl, ap, sym, subst, ◌∙◌, append_assoc, arith}
use Rattle.std.proofs.lemmas.Bool.Decides.{nat_tests}
use Rattle.plan_words.specs.declared.names.Weekday.{Weekday}
use Rattle.plan_words.specs.Words.{Every, To, Of, And, Comma, On, The, Last, ADay, Days, But, Only, Also, Where, It, They, Exists, Exist, Word, Key, Ordinal, ADayOfWeek}
use Rattle.plan_words.specs.Tree as tree
use Rattle.plan_words.specs.Tree.{Span, Values, Steps, Items, Dates, FromStart, FromEnd, LastDays, Week, WeekRun, WeekList, AnyDay, OnWeekdays, OnDates, OnNth, OnBoth, OnEither, Months, AllMonths, MonthRun, MonthList}
use Rattle.plan_words.specs.Sentence.{joined, ordinal, place, is_single, span_words, is_one, start_steps, when_words, dates_words, weekday_names, weekday_name, weekdays_words, each_weekday_words, lack_words, days_words}
use Rattle.plan_words.specs.WellFormed.{AreYears, AreMonths, AreDates, IsWeek, AreDays}
use Rattle.plan_words.specs.ReadTime.{front, past, begins, is_number, is_weekdays, goes_on, number_at, place_at, list_by, list_at}
use Rattle.plan_words.specs.ReadDays.{When, when_at, weekday_at, weekdays_at, each_weekday_at, after_comma, dates_with, without_lack, after_dates_at, with_days, after_places, after_ordinals, is_place, the_at, stepped_at, listed_weekdays, on_at, days_at}
use Rattle.plan_words.proofs.WhenLemmas.{when_again, when_ends, AfterWhen}
use Rattle.plan_words.proofs.TimeLemmas.{Ends, Starts, IsValue, each_reads, list_starts, lists_again, spans_again, AfterTime}

-- ---- dates

-- what may follow an item of a list of days or places
abbrev pub IsAfterItem : List Word → Type 0
IsAfterItem rest = (begins Last rest ≡ false) × (is_number (front rest) ≡ false)

-- a test on what words begin with, before what may follow an item
abbrev pub StartsBefore : (List Word → Bool) → Bool → List Word → Type 0
StartsBefore test b words = (rest : List Word) → IsAfterItem rest → test (words ++ rest) ≡ b

list_starts_before :
    {A : Type 0} (item : A → List Word) (test : List Word → Bool) (b : Bool) (x : A) (xs : List A) → StartsBefore test b (item x) →
    StartsBefore test b (joined item (x ∷ xs))
list_starts_before item test b x [] is = is
list_starts_before item test b x (y ∷ []) is = λ rest _. rw append_assoc (is (Key And ∷ item y ++ rest) (refl, refl))
list_starts_before item test b x (y ∷ z ∷ more) is =
    λ rest _. rw append_assoc (is (Key Comma ∷ joined item (y ∷ z ∷ more) ++ rest) (refl, refl))

span_starts_by :
    (value : ℕ → List Word) (test : List Word → Bool) (t : Bool) (first last : ℕ) (b : Bool) → StartsBefore test t (value first) →
    StartsBefore test t (if b then value first else value first ++ Key To ∷ value last)
span_starts_by value test t first last true is = is
span_starts_by value test t first last false is = λ rest _. rw append_assoc (is (Key To ∷ value last ++ rest) (refl, refl))

spans_start_before :
    (value : ℕ → List Word) (test : List Word → Bool) (t : Bool) → ((n : ℕ) → StartsBefore test t (value n)) → (x : Span) (xs : List Span) →
    StartsBefore test t (joined (span_words value) (x ∷ xs))
spans_start_before value test t is x xs =
    list_starts_before (span_words value) test t x xs (span_starts_by value test t x.first x.last (is_single x) (is x.first))

-- whether the last days come next
abbrev is_last_days : List Word → Bool
is_last_days words = begins Last words && is_number (front (past words))

place_by : (n : ℕ) (b : Bool) (rest : List Word) → (n == 1) ≡ b → place_at ((if b then Key Last ∷ [] else Ordinal n ∷ Key Last ∷ []) ++ rest) ≡ (n, rest)
place_by n true rest is =
    let same : n ≡ 1 = grind (arith, nat_tests) in
    ap (λ k. (k, rest)) (sym same)
place_by n false rest is = refl

place_reads : (n : ℕ) (rest : List Word) → place_at (place n ++ rest) ≡ (n, rest)
place_reads n rest = place_by n (n == 1) rest refl

place_value : (n : ℕ) → IsValue (place n)
place_value n = go (n == 1)
  where
    go : (b : Bool) → IsValue (if b then Key Last ∷ [] else Ordinal n ∷ Key Last ∷ [])
    go true = λ rest. refl
    go false = λ rest. refl

place_no_last_days : (n : ℕ) → StartsBefore is_last_days false (place n)
place_no_last_days n = go (n == 1)
  where
    go : (b : Bool) → StartsBefore is_last_days false (if b then Key Last ∷ [] else Ordinal n ∷ Key Last ∷ [])
    go true = λ rest after. after.1
    go false = λ rest after. refl

place_is_place : (n : ℕ) → StartsBefore is_place true (place n)
place_is_place n = go (n == 1)
  where
    go : (b : Bool) → StartsBefore is_place true (if b then Key Last ∷ [] else Ordinal n ∷ Key Last ∷ [])
    go true = λ rest after. refl
    go false = λ rest after. refl

-- places are read from the month's end
the_places :
    (x : Span) (xs : List Span) (rest : List Word) → IsAfterItem rest → Ends rest →
    the_at (joined (span_words place) (x ∷ xs) ++ rest) ≡ after_places (x ∷ xs, rest)
the_places x xs rest after end =
    rw (
      spans_start_before place is_last_days false place_no_last_days x xs rest after,
      spans_start_before place is_place true place_is_place x xs rest after,
      the_at,
    ) (ap after_places (spans_again place place_at place_reads place_value x xs rest end))

-- days are read from the month's start
the_ordinals :
    (x : Span) (xs : List Span) (rest : List Word) → IsAfterItem rest → Ends rest →
    the_at (joined (span_words ordinal) (x ∷ xs) ++ rest) ≡ after_ordinals (x ∷ xs, rest)
the_ordinals x xs rest after end =
    rw (
      spans_start_before ordinal is_last_days false (λ n r a. refl) x xs rest after,
      spans_start_before ordinal is_place false (λ n r a. a.0) x xs rest after,
      the_at,
    ) (ap after_ordinals (spans_again ordinal number_at (λ n r. refl) (λ n r. refl) x xs rest end))

and_true : (a b : Bool) → (a && b) ≡ true → (a ≡ true) × (b ≡ true)
and_true true b is = (refl, is)
and_true false b is = absurd (cc)

start_steps_again :
    (odd even : Bool) (first last step : ℕ) (rest : List Word) → ((first == 1) && ((last == 31) && (step == 2))) ≡ odd →
    ((first == 2) && ((last == 30) && (step == 2))) ≡ even →
    on_at (past (start_steps odd even first last step ++ rest)) ≡ after_dates_at (FromStart (Steps first last step)) rest
start_steps_again true even first last step rest is_odd is_even =
    let parts = and_true (first == 1) ((last == 31) && (step == 2)) is_odd in
    let more = and_true (last == 31) (step == 2) parts.1 in
    let one = parts.0 in
    let two = more.0 in
    let three = more.1 in
    let a : first ≡ 1 = grind (arith, nat_tests) in
    let b : last ≡ 31 = grind (arith, nat_tests) in
    let c : step ≡ 2 = grind (arith, nat_tests) in
    rw (a, b, c) refl
start_steps_again false true first last step rest is_odd is_even =
    let parts = and_true (first == 2) ((last == 30) && (step == 2)) is_even in
    let more = and_true (last == 30) (step == 2) parts.1 in
    let one = parts.0 in
    let two = more.0 in
    let three = more.1 in
    let a : first ≡ 2 = grind (arith, nat_tests) in
    let b : last ≡ 30 = grind (arith, nat_tests) in
    let c : step ≡ 2 = grind (arith, nat_tests) in
    rw (a, b, c) refl
start_steps_again false false first last step rest is_odd is_even = refl

end_steps_by :
    (first last step : ℕ) (b c : Bool) (rest : List Word) → (first == 1) ≡ b → (last == 1) ≡ c →
    stepped_at step ((if b then Key Last ∷ [] else Ordinal first ∷ Key Last ∷ [])
    ++ (Key To ∷ Key The ∷ ((if c then Key Last ∷ [] else Ordinal last ∷ Key Last ∷ []) ++ (Key ADay ∷ rest))))
    ≡ after_dates_at (FromEnd (Steps first last step)) rest
end_steps_by first last step true true rest is_first is_last =
    let a : first ≡ 1 = grind (arith, nat_tests) in
    let b : last ≡ 1 = grind (arith, nat_tests) in
    rw (a, b) refl
end_steps_by first last step true false rest is_first is_last =
    let a : first ≡ 1 = grind (arith, nat_tests) in
    rw a refl
end_steps_by first last step false true rest is_first is_last =
    let b : last ≡ 1 = grind (arith, nat_tests) in
    rw b refl
end_steps_by first last step false false rest is_first is_last = refl

abbrev day_or_days : Bool → List Word
day_or_days b = if b then Key ADay ∷ [] else Key Days ∷ []

end_items :
    (b : Bool) (x : Span) (xs : List Span) (more : List Word) →
    the_at (joined (span_words place) (x ∷ xs) ++ (day_or_days b ++ Key Of ∷ more)) ≡ after_dates_at (FromEnd (Items (x ∷ xs))) (Key Of ∷ more)
end_items true x xs more = the_places x xs (Key ADay ∷ Key Of ∷ more) (refl, refl) (record { to = refl; also = refl; more = refl })
end_items false x xs more = the_places x xs (Key Days ∷ Key Of ∷ more) (refl, refl) (record { to = refl; also = refl; more = refl })

dates_again :
    (dates : Dates) (more : List Word) → AreDates dates →
    on_at (past (dates_words dates ++ Key Of ∷ more)) ≡ after_dates_at dates (Key Of ∷ more)
dates_again (FromStart (Steps first last step)) more well =
    start_steps_again ((first == 1) && ((last == 31) && (step == 2))) ((first == 2) && ((last == 30) && (step == 2))) first last step (Key Of ∷ more) refl refl
dates_again (FromStart (Items [])) more well = absurd well
dates_again (FromStart (Items (x ∷ xs))) more well = the_ordinals x xs (Key Of ∷ more) (refl, refl) (record { to = refl; also = refl; more = refl })
dates_again (FromEnd (Steps first last step)) more well =
    ap (λ ws. stepped_at step ws)
    (append_assoc (place first) (Key To ∷ Key The ∷ (place last ++ (Key ADay ∷ []))) (Key Of ∷ more)
    ∙ ap (λ ws. place first ++ Key To ∷ Key The ∷ ws) (append_assoc (place last) (Key ADay ∷ []) (Key Of ∷ more)))
    ∙ end_steps_by first last step (first == 1) (last == 1) (Key Of ∷ more) refl refl
dates_again (FromEnd (Items [])) more well = absurd well
dates_again (FromEnd (Items (x ∷ xs))) more well =
    ap the_at (append_assoc (joined (span_words place) (x ∷ xs)) (day_or_days (is_one (x ∷ xs))) (Key Of ∷ more))
    ∙ end_items (is_one (x ∷ xs)) x xs more
dates_again (LastDays n) more well = refl

-- ---- days

-- months and years after dates begin with `of`
of_when :
    (months : Months) (years : Option Values) (rest : List Word) → AreMonths months →
    when_words true months years ++ rest ≡ Key Of ∷ past (when_words true months years ++ rest)
of_when AllMonths years rest good = refl
of_when (MonthRun first last) years rest good = refl
of_when (MonthList []) years rest good = absurd good
of_when (MonthList (x ∷ [])) years rest good = refl
of_when (MonthList (x ∷ y ∷ more)) years rest good = refl

-- dates, months and years, before what follows them
dates_and_when :
    (dates : Dates) (months : Months) (years : Option Values) (rest : List Word) → AreDates dates → AreMonths months → AreYears years → AfterWhen rest →
    on_at (past (dates_words dates ++ (when_words true months years ++ rest))) ≡ without_lack dates ((months, years), rest)
dates_and_when dates months years rest fine good well after =
    let words = when_words true months years ++ rest in
    let is = of_when months years rest good in
    ap (λ ws. on_at (past (dates_words dates ++ ws))) is
    ∙ dates_again dates (past words) fine
    ∙ ap (after_dates_at dates) (sym is)
    ∙ ap (without_lack dates) (when_again true months years rest good well after)

lack_one :
    (b : Bool) (dates : Dates) (when : When) (rest : List Word) →
    without_lack dates (when, (Key Comma ∷ Key Where ∷ (if b then Key It ∷ Key Exists ∷ [] else Key They ∷ Key Exist ∷ [])) ++ rest)
    ≡ dates_with dates when rest
lack_one true dates when rest = refl
lack_one false dates when rest = refl

no_lack : (dates : Dates) (when : When) (rest : List Word) → after_comma Where rest ≡ false → without_lack dates (when, rest) ≡ dates_with dates when rest
no_lack dates when rest is = rw (is, without_lack) refl

lack_skipped :
    (lacks : Bool) (dates : Dates) (when : When) (rest : List Word) → after_comma Where rest ≡ false →
    without_lack dates (when, lack_words lacks dates ++ rest) ≡ dates_with dates when rest
lack_skipped false dates when rest is = no_lack dates when rest is
lack_skipped true (FromStart (Items spans)) when rest is = lack_one (is_one spans) (FromStart (Items spans)) when rest
lack_skipped true (FromEnd (Items spans)) when rest is = lack_one (is_one spans) (FromEnd (Items spans)) when rest
lack_skipped true (FromStart (Steps first last step)) when rest is = no_lack (FromStart (Steps first last step)) when rest is
lack_skipped true (FromEnd (Steps first last step)) when rest is = no_lack (FromEnd (Steps first last step)) when rest is
lack_skipped true (LastDays n) when rest is = no_lack (LastDays n) when rest is

comma_after : (words : List Word) → goes_on (Key Comma ∷ words) ≡ false → AfterWhen (Key Comma ∷ words)
comma_after words is = record { ends = record { to = refl; also = refl; more = is }; no_in = refl; from = refl; number = refl }

lack_after : (lacks : Bool) (dates : Dates) (rest : List Word) → AfterWhen rest → AfterWhen (lack_words lacks dates ++ rest)
lack_after false dates rest after = after
lack_after true (FromStart (Items spans)) rest after =
    comma_after (Key Where ∷ (if is_one spans then Key It ∷ Key Exists ∷ [] else Key They ∷ Key Exist ∷ []) ++ rest) refl
lack_after true (FromEnd (Items spans)) rest after =
    comma_after (Key Where ∷ (if is_one spans then Key It ∷ Key Exists ∷ [] else Key They ∷ Key Exist ∷ []) ++ rest) refl
lack_after true (FromStart (Steps first last step)) rest after = after
lack_after true (FromEnd (Steps first last step)) rest after = after
lack_after true (LastDays n) rest after = after

-- at the end of a sentence
at_end : AfterWhen []
at_end = record { ends = record { to = refl; also = refl; more = refl }; no_in = refl; from = refl; number = refl }

plurals_again :
    (x : Weekday) (xs : List Weekday) (rest : List Word) → Ends rest → list_at weekday_at (joined weekday_names (x ∷ xs) ++ rest) ≡ (x ∷ xs, rest)
plurals_again x xs rest end =
    lists_again weekday_names weekday_at x xs rest (each_reads weekday_names weekday_at (λ w rest to. refl) (λ w rest. refl) (x ∷ xs)) end

weekday_list_again :
    (x : Weekday) (xs : List Weekday) (rest : List Word) → Ends rest → list_at weekday_at (joined weekday_name (x ∷ xs) ++ rest) ≡ (x ∷ xs, rest)
weekday_list_again x xs rest end =
    lists_again weekday_name weekday_at x xs rest (each_reads weekday_name weekday_at (λ w rest to. refl) (λ w rest. refl) (x ∷ xs)) end

week_again : (week : Week) (rest : List Word) → IsWeek week → Ends rest → weekdays_at (weekdays_words week ++ rest) ≡ week
week_again (WeekRun first last) rest fine end = refl
week_again (WeekList []) rest fine end = absurd fine
week_again (WeekList (x ∷ xs)) rest fine end = ap (λ list. WeekList list.0) (plurals_again x xs rest end)

each_again : (week : Week) (rest : List Word) → IsWeek week → Ends rest → each_weekday_at (past (past (each_weekday_words week ++ rest))) ≡ week
each_again (WeekRun first last) rest fine end = refl
each_again (WeekList []) rest fine end = absurd fine
each_again (WeekList (x ∷ xs)) rest fine end =
    rw (list_starts weekday_name (begins ADay) false x xs (λ r. refl) rest, each_weekday_at)
    (ap (λ list. WeekList list.0) (weekday_list_again x xs rest end))

either_first :
    (week : Week) (rest : List Word) → IsWeek week →
    each_weekday_words week ++ rest ≡ Key On ∷ Key Every ∷ past (past (each_weekday_words week ++ rest))
either_first (WeekRun first last) rest fine = refl
either_first (WeekList xs) rest fine = refl

weekdays_first : (x : Weekday) (xs : List Weekday) → Starts (λ ws. is_weekdays (front ws)) true (joined weekday_names (x ∷ xs))
weekdays_first x xs = list_starts weekday_names (λ ws. is_weekdays (front ws)) true x xs (λ rest. refl)

at_plurals : (words : List Word) → is_weekdays (front words) ≡ true → on_at words ≡ listed_weekdays (list_at weekday_at words)
at_plurals words is = rw (is, on_at) refl

nth_place :
    (k : ℕ) (b : Bool) (w : Weekday) (rest : List Word) → (k == 1) ≡ b →
    the_at ((if b then Key Last ∷ [] else Ordinal k ∷ Key Last ∷ []) ++ ADayOfWeek w ∷ rest) ≡ with_days (OnNth k true w) (when_at true rest)
unfolding list_by
nth_place k true w rest is =
    let same : k ≡ 1 = grind (arith, nat_tests) in
    ap (λ n. with_days (OnNth n true w) (when_at true rest)) (sym same)
nth_place k false w rest is = refl

nth_day : (k : ℕ) (w : Weekday) (rest : List Word) → the_at (Ordinal k ∷ ADayOfWeek w ∷ rest) ≡ with_days (OnNth k false w) (when_at true rest)
unfolding list_by
nth_day k w rest = refl

start_first : (odd even : Bool) (first last step : ℕ) (rest : List Word) →
    start_steps odd even first last step ++ rest ≡ Key On ∷ past (start_steps odd even first last step ++ rest)
start_first true even first last step rest = refl
start_first false true first last step rest = refl
start_first false false first last step rest = refl

-- dates begin with `on`
on_first : (dates : Dates) (rest : List Word) → dates_words dates ++ rest ≡ Key On ∷ past (dates_words dates ++ rest)
on_first (FromStart (Steps first last step)) rest =
    start_first ((first == 1) && ((last == 31) && (step == 2))) ((first == 2) && ((last == 30) && (step == 2))) first last step rest
on_first (FromStart (Items spans)) rest = refl
on_first (FromEnd (Steps first last step)) rest = refl
on_first (FromEnd (Items spans)) rest = refl
on_first (LastDays n) rest = refl

at_dates :
    (lacks : Bool) (dates : Dates) (months : Months) (years : Option Values) (rest : List Word) → AreDates dates → AreMonths months → AreYears years →
    AfterWhen rest → after_comma Where rest ≡ false →
    days_at (dates_words dates ++ (when_words true months years ++ (lack_words lacks dates ++ rest))) ≡ dates_with dates (months, years) rest
at_dates lacks dates months years rest fine good well after is =
    ap days_at (on_first dates (when_words true months years ++ (lack_words lacks dates ++ rest)))
    ∙ dates_and_when dates months years (lack_words lacks dates ++ rest) fine good well (lack_after lacks dates rest after)
    ∙ lack_skipped lacks dates (months, years) rest is

assoc_3 : (a b c d : List Word) → (a ++ (b ++ c)) ++ d ≡ a ++ (b ++ (c ++ d))
assoc_3 a b c d = simp append_assoc

assoc_4 : (a b c d e : List Word) → (a ++ (b ++ (c ++ d))) ++ e ≡ a ++ (b ++ (c ++ (d ++ e)))
assoc_4 a b c d e = simp append_assoc

any_day :
    (months : Months) (years : Option Values) → AreMonths months → AreYears years →
    days_at (Key On ∷ Key Every ∷ Key ADay ∷ when_words false months years ++ []) ≡ (AnyDay, (months, years))
any_day months years good well = ap (with_days AnyDay) (when_again false months years [] good well at_end)

-- days, months and years that were said are read again
pub days_again :
    (lacks : Bool) (days : tree.Days) (months : Months) (years : Option Values) → AreDays days → AreMonths months → AreYears years →
    days_at (days_words lacks days months years ++ []) ≡ (days, (months, years))
days_again lacks AnyDay AllMonths None fine good well = refl
days_again lacks AnyDay AllMonths (Some values) fine good well = any_day AllMonths (Some values) good well
days_again lacks AnyDay (MonthRun first last) years fine good well = any_day (MonthRun first last) years good well
days_again lacks AnyDay (MonthList xs) years fine good well = any_day (MonthList xs) years good well
days_again lacks (OnWeekdays (WeekRun first last)) months years fine good well =
    ap (with_days (OnWeekdays (WeekRun first last))) (when_again false months years [] good well at_end)
days_again lacks (OnWeekdays (WeekList [])) months years fine good well = absurd fine
days_again lacks (OnWeekdays (WeekList (x ∷ xs))) months years fine good well =
    let names = joined weekday_names (x ∷ xs) in
    let words = when_words false months years ++ [] in
    ap on_at (append_assoc names (when_words false months years) [])
    ∙ at_plurals (names ++ words) (weekdays_first x xs words)
    ∙ ap listed_weekdays (plurals_again x xs words (when_ends months years [] good well at_end))
    ∙ ap (with_days (OnWeekdays (WeekList (x ∷ xs)))) (when_again false months years [] good well at_end)
days_again lacks (OnDates dates) months years fine good well =
    ap days_at (assoc_3 (dates_words dates) (when_words true months years) (lack_words lacks dates) [])
    ∙ at_dates lacks dates months years [] fine good well at_end refl
days_again lacks (OnNth k false w) months years fine good well =
    nth_day k w (when_words true months years ++ [])
    ∙ ap (with_days (OnNth k false w)) (when_again true months years [] good well at_end)
days_again lacks (OnNth k true w) months years fine good well =
    ap the_at (append_assoc (place k) (ADayOfWeek w ∷ when_words true months years) [])
    ∙ nth_place k (k == 1) w (when_words true months years ++ []) refl
    ∙ ap (with_days (OnNth k true w)) (when_again true months years [] good well at_end)
days_again lacks (OnBoth dates week) months years fine good well =
    let tail = weekdays_words week ++ [] in
    ap days_at (assoc_4 (dates_words dates) (when_words true months years) (lack_words lacks dates) (Key Comma ∷ Key But ∷ Key Only ∷ weekdays_words week) [])
    ∙ at_dates lacks dates months years (Key Comma ∷ Key But ∷ Key Only ∷ tail) fine.0 good well (comma_after (Key But ∷ Key Only ∷ tail) refl) refl
    ∙ ap (λ w. (OnBoth dates w, (months, years))) (week_again week [] fine.1 at_end.ends)
days_again lacks (OnEither dates week) months years fine good well =
    let tail = each_weekday_words week ++ (when_words false months years ++ []) in
    ap days_at (assoc_4 (dates_words dates) (when_words true months years) (lack_words lacks dates)
    (Key Comma ∷ Key And ∷ Key Also ∷ each_weekday_words week ++ when_words false months years) [])
    ∙ ap (λ ws. days_at (dates_words dates ++ (when_words true months years ++ (lack_words lacks dates ++ (Key Comma ∷ Key And ∷ Key Also ∷ ws)))))
    (append_assoc (each_weekday_words week) (when_words false months years) [])
    ∙ at_dates lacks dates months years (Key Comma ∷ Key And ∷ Key Also ∷ tail) fine.0 good well (comma_after (Key And ∷ Key Also ∷ tail) refl) refl
    ∙ ap (λ w. (OnEither dates w, (months, years)))
    (each_again week (when_words false months years ++ []) fine.1 (when_ends months years [] good well at_end))

-- ---- what comes after the time

on_after : (words : List Word) → AfterTime (Key On ∷ words)
on_after words = record { ends = record { to = refl; also = refl; more = refl }; of = refl; clock = refl; unit = refl }

time_at_end : AfterTime []
time_at_end = record { ends = record { to = refl; also = refl; more = refl }; of = refl; clock = refl; unit = refl }

dates_after : (dates : Dates) (more rest : List Word) → AfterTime ((dates_words dates ++ more) ++ rest)
dates_after dates more rest =
    subst AfterTime (sym (append_assoc (dates_words dates) more rest ∙ on_first dates (more ++ rest))) (on_after (past (dates_words dates ++ (more ++ rest))))

pub after_time_of :
    (lacks : Bool) (days : tree.Days) (months : Months) (years : Option Values) → AfterTime (days_words lacks days months years ++ [])
after_time_of lacks AnyDay AllMonths None = time_at_end
after_time_of lacks AnyDay AllMonths (Some values) = on_after _
after_time_of lacks AnyDay (MonthRun first last) years = on_after _
after_time_of lacks AnyDay (MonthList xs) years = on_after _
after_time_of lacks (OnWeekdays (WeekRun first last)) months years =
    record { ends = record { to = refl; also = refl; more = refl }; of = refl; clock = refl; unit = refl }
after_time_of lacks (OnWeekdays (WeekList xs)) months years = on_after _
after_time_of lacks (OnDates dates) months years = dates_after dates (when_words true months years ++ lack_words lacks dates) []
after_time_of lacks (OnNth k false w) months years = on_after _
after_time_of lacks (OnNth k true w) months years = on_after _
after_time_of lacks (OnBoth dates week) months years =
    dates_after dates (when_words true months years ++ (lack_words lacks dates ++ (Key Comma ∷ Key But ∷ Key Only ∷ weekdays_words week))) []
after_time_of lacks (OnEither dates week) months years =
    dates_after dates
    (when_words true months years
    ++ (lack_words lacks dates ++ (Key Comma ∷ Key And ∷ Key Also ∷ each_weekday_words week ++ when_words false months years))) []
