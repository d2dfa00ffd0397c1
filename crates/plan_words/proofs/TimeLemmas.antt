-- A time that was said is read again.
use Rattle.std.proofs.Common.{◌≡◌, ℕ, zero, suc, ◌≤◌, Bool, true, false, ◌||◌, ◌==◌, if◌then◌else◌, List, [], ◌∷◌, ◌++◌, length, Option, Some, None, refl, ap, sym, subst, ◌∙◌, append_assoc, arith, length-append}
use Rattle.std.specs.List.{list_any}
use Rattle.std.proofs.lemmas.Bool.Decides.{nat_tests}
use Rattle.plan_words.specs.declared.names.TimeUnit.{TimeUnit}
use Rattle.plan_words.specs.declared.names.TimeUnit.TheVariants.{Second, Minute, Hour}
use Rattle.plan_words.specs.Words.{Every, From, To, Of, And, Comma, Word, Key, Number, Ordinal, Clock, OneUnit, ManyUnits}
use Rattle.plan_words.specs.Tree.{Span, Values, Steps, Items, TimeOfDay, Window, Lead, Cycle, Among, Hours, AllHours, HourSteps, HourList, Time, Listed, WholeDay, Windows, Minutes, Seconds}
use Rattle.plan_words.specs.Sentence.{joined, number, is_single, span_words, is_one, every, has_second, has_second_within, clock_word, clock, window_words, lead_words, of_minutes, of_hours, of_minutes_and_hours, time_words}
use Rattle.plan_words.specs.WellFormed.{AreSomeItems, IsLead, AreHours, IsTime}
use Rattle.plan_words.specs.ReadTime.{front, past, begins, clock_of, is_clock, is_unit, ends_list, goes_on, number_at, span_from, span_at, with_first, list_after, list_by, list_at, clock_at, window_at, from_a, spans_at, hours_by, hour_list, hours_at, some_items, minutes_at, with_hours, with_all, after_minutes, parts_at, lead_items, listed, at_time, windowed, after_unit, time_at}

-- ---- lists

-- what comes after a list doesn't go on with it
pub record Ends (rest : List Word) : Type 0 where
  pub to : begins To rest ≡ false
  pub also : begins And rest ≡ false
  pub more : goes_on rest ≡ false

-- an item is read again, whatever follows but `to`
abbrev pub Reads : {A : Type 0} → (A → List Word) → (List Word → A × List Word) → A → Type 0
Reads item item_at x = (rest : List Word) → begins To rest ≡ false → item_at (item x ++ rest) ≡ (x, rest)

-- a test on what words begin with, whatever follows them
abbrev pub Starts : (List Word → Bool) → Bool → List Word → Type 0
Starts test b words = (rest : List Word) → test (words ++ rest) ≡ b

-- an item doesn't begin like what ends a list
abbrev pub IsValue : List Word → Type 0
IsValue words = Starts (λ ws. ends_list (front ws)) false words

-- each item of a list is read again
abbrev pub EachReads : {A : Type 0} → (A → List Word) → (List Word → A × List Word) → List A → Type 0
EachReads item item_at [] = Unit {0}
EachReads item item_at (x ∷ xs) = Reads item item_at x × (IsValue (item x) × EachReads item item_at xs)

pub each_reads :
    {A : Type 0} (item : A → List Word) (item_at : List Word → A × List Word) → ((x : A) → Reads item item_at x) →
    ((x : A) → IsValue (item x)) → (xs : List A) → EachReads item item_at xs
each_reads item item_at reads value [] = tt
each_reads item item_at reads value (x ∷ xs) = (reads x, (value x, each_reads item item_at reads value xs))

-- at the end of a list
last_item :
    {A : Type 0} (item_at : List Word → A × List Word) (more : List Word → List A × List Word) (x : A) (rest : List Word) → Ends rest →
    list_after item_at more (x, rest) ≡ (x ∷ [], rest)
last_item item_at more x rest end = rw (end.also, end.more, list_after) refl

at_comma :
    {A : Type 0} (item_at : List Word → A × List Word) (more : List Word → List A × List Word) (x : A) (words : List Word) →
    ends_list (front words) ≡ false → list_after item_at more (x, Key Comma ∷ words) ≡ with_first x (more words)
at_comma item_at more x words is = rw (is, list_after) refl

-- a list begins as its first item does
pub list_starts :
    {A : Type 0} (item : A → List Word) (test : List Word → Bool) (b : Bool) (x : A) (xs : List A) → Starts test b (item x) →
    Starts test b (joined item (x ∷ xs))
list_starts item test b x [] is = is
list_starts item test b x (y ∷ []) is = λ rest. rw append_assoc (is (Key And ∷ item y ++ rest))
list_starts item test b x (y ∷ z ∷ more) is = λ rest. rw append_assoc (is (Key Comma ∷ joined item (y ∷ z ∷ more) ++ rest))

list_again :
    {A : Type 0} (item : A → List Word) (item_at : List Word → A × List Word) (x : A) (xs : List A) (k : ℕ) (rest : List Word) →
    EachReads item item_at (x ∷ xs) → length xs ≤ k → Ends rest →
    list_by item_at (suc k) (joined item (x ∷ xs) ++ rest) ≡ (x ∷ xs, rest)
unfolding list_by
list_again item item_at x [] k rest each fits end =
    ap (list_after item_at (λ ws. list_by item_at k ws)) (each.0 rest end.to) ∙ last_item item_at (λ ws. list_by item_at k ws) x rest end
list_again item item_at x (y ∷ []) k rest each fits end =
    rw (append_assoc (item x) (Key And ∷ item y) rest)
    (ap (list_after item_at (λ ws. list_by item_at k ws)) (each.0 (Key And ∷ item y ++ rest) refl)
    ∙ ap (λ found. (x ∷ found.0 ∷ [], found.1)) (each.1.1.0 rest end.to))
list_again item item_at x (y ∷ z ∷ more) zero rest each fits end = absurd (omega arith)
list_again item item_at x (y ∷ z ∷ more) (suc k) rest each fits end =
    let tail = joined item (y ∷ z ∷ more) in
    rw (append_assoc (item x) (Key Comma ∷ tail) rest)
    (ap (list_after item_at (λ ws. list_by item_at (suc k) ws)) (each.0 (Key Comma ∷ tail ++ rest) refl)
    ∙ at_comma item_at (λ ws. list_by item_at (suc k) ws) x (tail ++ rest) (list_starts item (λ ws. ends_list (front ws)) false y (z ∷ more) each.1.1.1.0 rest)
    ∙ ap (with_first x) (list_again item item_at y (z ∷ more) k rest each.1.1 (omega arith) end))

longer :
    {A : Type 0} (item : A → List Word) (x : A) (xs : List A) (rest : List Word) → length xs ≤ length (joined item (x ∷ xs) ++ rest)
longer item x [] rest = omega arith
longer item x (y ∷ []) rest =
    rw (append_assoc (item x) (Key And ∷ item y) rest) (omega (arith, length-append (item x) (Key And ∷ item y ++ rest)))
longer item x (y ∷ z ∷ more) rest =
    rw (append_assoc (item x) (Key Comma ∷ joined item (y ∷ z ∷ more)) rest)
    (omega (arith, length-append (item x) (Key Comma ∷ joined item (y ∷ z ∷ more) ++ rest), longer item y (z ∷ more) rest))

-- a list that was said is read again
pub lists_again :
    {A : Type 0} (item : A → List Word) (item_at : List Word → A × List Word) (x : A) (xs : List A) (rest : List Word) →
    EachReads item item_at (x ∷ xs) → Ends rest → list_at item_at (joined item (x ∷ xs) ++ rest) ≡ (x ∷ xs, rest)
lists_again item item_at x xs rest each end =
    list_again item item_at x xs (length (joined item (x ∷ xs) ++ rest)) rest each (longer item x xs rest) end

-- ---- spans

span_by :
    (value : ℕ → List Word) (value_at : List Word → ℕ × List Word) (reads : (n : ℕ) (rest : List Word) → value_at (value n ++ rest) ≡ (n, rest))
    (span : Span) (b : Bool) (rest : List Word) → is_single span ≡ b → begins To rest ≡ false →
    span_at value_at ((if b then value span.first else value span.first ++ Key To ∷ value span.last) ++ rest) ≡ (span, rest)
span_by value value_at reads span true rest is to =
    let same : span.first ≡ span.last = grind (arith, nat_tests) in
    ap (span_from value_at) (reads span.first rest)
    ∙ rw (to, span_from) (ap (λ n. (record { first = span.first; last = n }, rest)) same)
span_by value value_at reads span false rest is to =
    rw (append_assoc (value span.first) (Key To ∷ value span.last) rest)
    (ap (span_from value_at) (reads span.first (Key To ∷ value span.last ++ rest))
    ∙ ap (λ last. (record { first = span.first; last = last.0 }, last.1)) (reads span.last rest))

pub span_reads :
    (value : ℕ → List Word) (value_at : List Word → ℕ × List Word) → ((n : ℕ) (rest : List Word) → value_at (value n ++ rest) ≡ (n, rest)) →
    (span : Span) → Reads (span_words value) (span_at value_at) span
span_reads value value_at reads span = λ rest to. span_by value value_at reads span (is_single span) rest refl to

span_value_by :
    (value : ℕ → List Word) (test : List Word → Bool) (t : Bool) (first last : ℕ) (b : Bool) → Starts test t (value first) →
    Starts test t (if b then value first else value first ++ Key To ∷ value last)
span_value_by value test t first last true is = is
span_value_by value test t first last false is = λ rest. rw append_assoc (is (Key To ∷ value last ++ rest))

pub span_starts :
    (value : ℕ → List Word) (test : List Word → Bool) (t : Bool) (span : Span) → Starts test t (value span.first) → Starts test t (span_words value span)
span_starts value test t span is = span_value_by value test t span.first span.last (is_single span) is

-- a list of spans that was said is read again
pub spans_again :
    (value : ℕ → List Word) (value_at : List Word → ℕ × List Word) → ((n : ℕ) (rest : List Word) → value_at (value n ++ rest) ≡ (n, rest)) →
    ((n : ℕ) → IsValue (value n)) → (x : Span) (xs : List Span) (rest : List Word) → Ends rest →
    list_at (span_at value_at) (joined (span_words value) (x ∷ xs) ++ rest) ≡ (x ∷ xs, rest)
spans_again value value_at reads is_value x xs rest end =
    lists_again (span_words value) (span_at value_at) x xs rest
    (each_reads (span_words value) (span_at value_at) (span_reads value value_at reads)
    (λ span. span_starts value (λ ws. ends_list (front ws)) false span (is_value span.first)) (x ∷ xs)) end

pub number_spans :
    (x : Span) (xs : List Span) (rest : List Word) → Ends rest → spans_at (joined (span_words number) (x ∷ xs) ++ rest) ≡ (x ∷ xs, rest)
number_spans x xs rest end = spans_again number number_at (λ n rest. refl) (λ n rest. refl) x xs rest end

pub numbers_again :
    (x : ℕ) (xs : List ℕ) (rest : List Word) → Ends rest → list_at number_at (joined number (x ∷ xs) ++ rest) ≡ (x ∷ xs, rest)
numbers_again x xs rest end =
    lists_again number number_at x xs rest (each_reads number number_at (λ n rest to. refl) (λ n rest. refl) (x ∷ xs)) end

-- ---- parts of a time

-- what comes after a time
pub record AfterTime (rest : List Word) : Type 0 where
  pub ends : Ends rest
  pub of : begins Of rest ≡ false
  pub clock : from_a is_clock rest ≡ false
  pub unit : from_a is_unit rest ≡ false

hour_steps :
    (first last step : ℕ) (b : Bool) (rest : List Word) → (step == 1) ≡ b →
    hours_at (Key Every ∷ ((if b then [] else Ordinal step ∷ []) ++ OneUnit Hour ∷ Key From ∷ Clock first 0 ∷ Key To ∷ Clock last 59 ∷ []) ++ rest)
    ≡ (HourSteps first last step, rest)
hour_steps first last step true rest is =
    let same : step ≡ 1 = grind (arith, nat_tests) in
    ap (λ n. (HourSteps first last n, rest)) (sym same)
hour_steps first last step false rest is = refl

pub hours_again : (hours : Hours) (rest : List Word) → AreHours hours → AfterTime rest → hours_at (past (of_hours hours ++ rest)) ≡ (hours, rest)
hours_again AllHours rest well after = rw (after.clock, hours_by) refl
hours_again (HourSteps first last step) rest well after = hour_steps first last step (step == 1) rest refl
hours_again (HourList []) rest well after = absurd well
hours_again (HourList (x ∷ [])) rest well after = ap hour_list (numbers_again x [] rest after.ends)
hours_again (HourList (x ∷ y ∷ more)) rest well after = ap hour_list (numbers_again x (y ∷ more) rest after.ends)

-- hours begin with `of`
of_first : (hours : Hours) (rest : List Word) → AreHours hours → of_hours hours ++ rest ≡ Key Of ∷ past (of_hours hours ++ rest)
of_first AllHours rest well = refl
of_first (HourSteps first last step) rest well = refl
of_first (HourList []) rest well = absurd well
of_first (HourList (x ∷ [])) rest well = refl
of_first (HourList (x ∷ y ∷ more)) rest well = refl

minute_items :
    (b : Bool) (words : List Word) → minutes_at ((if b then OneUnit Minute else ManyUnits Minute) ∷ words) ≡ some_items (spans_at words)
minute_items true words = refl
minute_items false words = refl

pub minutes_again :
    (minutes : Option Values) (rest : List Word) → AreSomeItems minutes → Ends rest →
    minutes_at (past (of_minutes minutes ++ rest)) ≡ (minutes, rest)
minutes_again None rest well end = refl
minutes_again (Some (Steps first last step)) rest well end = refl
minutes_again (Some (Items [])) rest well end = absurd well
minutes_again (Some (Items (x ∷ xs))) rest well end =
    minute_items (is_one (x ∷ xs)) (joined (span_words number) (x ∷ xs) ++ rest) ∙ ap some_items (number_spans x xs rest end)

-- ---- the smallest unit

cycle_again : (n : ℕ) (b : Bool) (unit : TimeUnit) (more : List Word) → (n == 1) ≡ b →
    time_at ((if b then Key Every ∷ OneUnit unit ∷ [] else Key Every ∷ Number n ∷ ManyUnits unit ∷ []) ++ Key Of ∷ more)
    ≡ parts_at unit (Cycle n) (Key Of ∷ more)
cycle_again n true unit more is =
    let same : n ≡ 1 = grind (arith, nat_tests) in
    ap (λ k. parts_at unit (Cycle k) (Key Of ∷ more)) (sym same)
cycle_again n false unit more is = refl

lead_steps :
    (first last n : ℕ) (b : Bool) (unit : TimeUnit) (more : List Word) → (n == 1) ≡ b →
    time_at (((if b then Key Every ∷ OneUnit unit ∷ [] else Key Every ∷ Number n ∷ ManyUnits unit ∷ [])
    ++ Key From ∷ OneUnit unit ∷ Number first ∷ Key To ∷ Number last ∷ []) ++ Key Of ∷ more)
    ≡ parts_at unit (Among (Steps first last n)) (Key Of ∷ more)
lead_steps first last n true unit more is =
    let same : n ≡ 1 = grind (arith, nat_tests) in
    ap (λ k. parts_at unit (Among (Steps first last k)) (Key Of ∷ more)) (sym same)
lead_steps first last n false unit more is = refl

lead_spans :
    (b : Bool) (unit : TimeUnit) (words : List Word) →
    at_time ((if b then OneUnit unit else ManyUnits unit) ∷ words) ≡ lead_items unit (spans_at words)
lead_spans true unit words = refl
lead_spans false unit words = refl

lead_again :
    (unit : TimeUnit) (lead : Lead) (more : List Word) → IsLead lead →
    time_at (lead_words unit lead ++ Key Of ∷ more) ≡ parts_at unit lead (Key Of ∷ more)
lead_again unit (Cycle n) more well = cycle_again n (n == 1) unit more refl
lead_again unit (Among (Steps first last step)) more well = lead_steps first last step (step == 1) unit more refl
lead_again unit (Among (Items [])) more well = absurd well
lead_again unit (Among (Items (x ∷ xs))) more well =
    lead_spans (is_one (x ∷ xs)) unit (joined (span_words number) (x ∷ xs) ++ Key Of ∷ more)
    ∙ ap (lead_items unit) (number_spans x xs (Key Of ∷ more) (record { to = refl; also = refl; more = refl }))

-- the same, where the words after it are known to begin with `of`
lead_before :
    (unit : TimeUnit) (lead : Lead) (words more : List Word) → IsLead lead → words ≡ Key Of ∷ more →
    time_at (lead_words unit lead ++ words) ≡ parts_at unit lead words
lead_before unit lead words more well is =
    ap (λ ws. time_at (lead_words unit lead ++ ws)) is ∙ lead_again unit lead more well ∙ ap (parts_at unit lead) (sym is)

of_ends : (words more : List Word) → words ≡ Key Of ∷ more → Ends words
of_ends words more is = subst Ends (sym is) (record { to = refl; also = refl; more = refl })

-- minutes and hours after seconds
with_seconds :
    (lead : Lead) (minutes : Option Values) (hours : Hours) (rest : List Word) → AreSomeItems minutes → AreHours hours → AfterTime rest →
    after_minutes lead (minutes_at (past ((of_minutes minutes ++ of_hours hours) ++ rest))) ≡ (Seconds lead minutes hours, rest)
with_seconds lead minutes hours rest well good after =
    let is = of_first hours rest good in
    let words = of_hours hours ++ rest in
    ap (λ ws. after_minutes lead (minutes_at (past ws))) (append_assoc (of_minutes minutes) (of_hours hours) rest)
    ∙ ap (after_minutes lead) (minutes_again minutes words well (of_ends words (past words) is))
    ∙ ap (λ ws. after_minutes lead (minutes, ws)) is
    ∙ ap (with_all lead minutes) (hours_again hours rest good after)

seconds_after :
    (lead : Lead) (minutes : Option Values) (hours : Hours) (rest : List Word) → AreSomeItems minutes → AreHours hours → AfterTime rest →
    after_minutes lead (minutes_at (past (of_minutes_and_hours minutes hours ++ rest))) ≡ (Seconds lead minutes hours, rest)
seconds_after lead None AllHours rest well good after = rw (after.of, after_minutes) refl
seconds_after lead None (HourSteps first last step) rest well good after = with_seconds lead None (HourSteps first last step) rest well good after
seconds_after lead None (HourList xs) rest well good after = with_seconds lead None (HourList xs) rest well good after
seconds_after lead (Some values) hours rest well good after = with_seconds lead (Some values) hours rest well good after

minutes_first : (minutes : Option Values) (rest : List Word) → of_minutes minutes ++ rest ≡ Key Of ∷ past (of_minutes minutes ++ rest)
minutes_first None rest = refl
minutes_first (Some (Steps first last step)) rest = refl
minutes_first (Some (Items xs)) rest = refl

both_first :
    (minutes : Option Values) (hours : Hours) (rest : List Word) →
    of_minutes_and_hours minutes hours ++ rest ≡ Key Of ∷ past (of_minutes_and_hours minutes hours ++ rest)
both_first None AllHours rest = refl
both_first None (HourSteps first last step) rest = refl
both_first None (HourList xs) rest = refl
both_first (Some (Steps first last step)) hours rest = refl
both_first (Some (Items xs)) hours rest = refl

-- ---- times of the day

or_false : (a b : Bool) → (a || b) ≡ false → (a ≡ false) × (b ≡ false)
or_false true b is = absurd (cc)
or_false false b is = (refl, is)

clock_by :
    (seconds : Bool) (time : TimeOfDay) → (seconds ≡ false → has_second time ≡ false) → clock_of (clock_word seconds time) ≡ time
clock_by true time is = refl
clock_by false time is =
    let none = is refl in
    let zero_second : time.second ≡ 0 = grind (arith, nat_tests) in
    ap (λ n. record { hour = time.hour; minute = time.minute; second = n }) (sym zero_second)

clocks_by :
    (seconds : Bool) (times : List TimeOfDay) → (seconds ≡ false → list_any has_second times ≡ false) → EachReads (clock seconds) clock_at times
clocks_by seconds [] is = tt
clocks_by seconds (x ∷ xs) is = (
  λ rest to. ap (λ t. (t, rest)) (clock_by seconds x (λ e. (or_false (has_second x) (list_any has_second xs) (is e)).0)),
  (value seconds, clocks_by seconds xs (λ e. (or_false (has_second x) (list_any has_second xs) (is e)).1)),
)
  where
    value : (b : Bool) → IsValue (clock b x)
    value true = λ rest. refl
    value false = λ rest. refl

clock_first : (seconds : Bool) (x : TimeOfDay) (xs : List TimeOfDay) → Starts (λ ws. is_clock (front ws)) true (joined (clock seconds) (x ∷ xs))
clock_first true x xs = list_starts (clock true) (λ ws. is_clock (front ws)) true x xs (λ rest. refl)
clock_first false x xs = list_starts (clock false) (λ ws. is_clock (front ws)) true x xs (λ rest. refl)

listed_again :
    (seconds : Bool) (x : TimeOfDay) (xs : List TimeOfDay) (rest : List Word) → (seconds ≡ false → list_any has_second (x ∷ xs) ≡ false) →
    Ends rest → at_time (joined (clock seconds) (x ∷ xs) ++ rest) ≡ (Listed (x ∷ xs), rest)
listed_again seconds x xs rest is end =
    rw (clock_first seconds x xs rest, at_time) (ap listed (lists_again (clock seconds) clock_at x xs rest (clocks_by seconds (x ∷ xs) is) end))

-- ---- windows

-- a window begins with `from` and a clock
abbrev is_window : List Word → Bool
is_window words = from_a is_clock words

window_by :
    (seconds : Bool) (w : Window) (rest : List Word) → (seconds ≡ false → has_second_within w ≡ false) →
    window_at (window_words seconds w ++ rest) ≡ (w, rest)
window_by seconds w rest is =
    ap (λ t. (record { first = t; last = clock_of (clock_word seconds w.last) }, rest))
    (clock_by seconds w.first (λ e. (or_false (has_second w.first) (has_second w.last) (is e)).0))
    ∙ ap (λ t. (record { first = w.first; last = t }, rest))
    (clock_by seconds w.last (λ e. (or_false (has_second w.first) (has_second w.last) (is e)).1))

window_first : (seconds : Bool) (w : Window) → Starts is_window true (window_words seconds w)
window_first true w = λ rest. refl
window_first false w = λ rest. refl

windows_by :
    (seconds : Bool) (windows : List Window) → (seconds ≡ false → list_any has_second_within windows ≡ false) →
    EachReads (window_words seconds) window_at windows
windows_by seconds [] is = tt
windows_by seconds (x ∷ xs) is = (
  λ rest to. window_by seconds x rest (λ e. (or_false (has_second_within x) (list_any has_second_within xs) (is e)).0),
  (λ rest. refl, windows_by seconds xs (λ e. (or_false (has_second_within x) (list_any has_second_within xs) (is e)).1)),
)

windows_again :
    (count : ℕ) (unit : TimeUnit) (seconds : Bool) (x : Window) (xs : List Window) (rest : List Word) →
    (seconds ≡ false → list_any has_second_within (x ∷ xs) ≡ false) → Ends rest →
    after_unit count unit (joined (window_words seconds) (x ∷ xs) ++ rest) ≡ (Windows count unit (x ∷ xs), rest)
windows_again count unit seconds x xs rest is end =
    rw (list_starts (window_words seconds) is_window true x xs (window_first seconds x) rest, after_unit)
    (ap (windowed count unit) (lists_again (window_words seconds) window_at x xs rest (windows_by seconds (x ∷ xs) is) end))

-- after `every unit` and `every n units`
every_again :
    (n : ℕ) (b : Bool) (unit : TimeUnit) (words : List Word) → (n == 1) ≡ b →
    time_at ((if b then Key Every ∷ OneUnit unit ∷ [] else Key Every ∷ Number n ∷ ManyUnits unit ∷ []) ++ words) ≡ after_unit n unit words
every_again n true unit words is =
    let same : n ≡ 1 = grind (arith, nat_tests) in
    ap (λ k. after_unit k unit words) (sym same)
every_again n false unit words is = refl

whole_day : (n : ℕ) (unit : TimeUnit) (rest : List Word) → AfterTime rest → after_unit n unit rest ≡ (WholeDay n unit, rest)
whole_day n unit rest after = rw (after.clock, after.unit, after.of, after_unit) refl

-- a time that was said is read again
pub time_again : (time : Time) (rest : List Word) → IsTime time → AfterTime rest → time_at (time_words time ++ rest) ≡ (time, rest)
time_again (Listed []) rest well after = absurd well
time_again (Listed (x ∷ xs)) rest well after =
    listed_again (list_any has_second (x ∷ xs)) x xs rest (λ e. e) after.ends
time_again (WholeDay count unit) rest well after = every_again count (count == 1) unit rest refl ∙ whole_day count unit rest after
time_again (Windows count unit []) rest well after = absurd well
time_again (Windows count unit (x ∷ xs)) rest well after =
    let seconds = list_any has_second_within (x ∷ xs) in
    let words = joined (window_words seconds) (x ∷ xs) in
    ap time_at (append_assoc (every count unit) words rest)
    ∙ every_again count (count == 1) unit (words ++ rest) refl
    ∙ windows_again count unit seconds x xs rest (λ e. e) after.ends
time_again (Minutes lead hours) rest well after =
    let words = of_hours hours ++ rest in
    ap time_at (append_assoc (lead_words Minute lead) (of_hours hours) rest)
    ∙ lead_before Minute lead words (past words) well.0 (of_first hours rest well.1)
    ∙ ap (with_hours lead) (hours_again hours rest well.1 after)
time_again (Seconds lead minutes hours) rest well after =
    let words = of_minutes_and_hours minutes hours ++ rest in
    ap time_at (append_assoc (lead_words Second lead) (of_minutes_and_hours minutes hours) rest)
    ∙ lead_before Second lead words (past words) well.0 (both_first minutes hours rest)
    ∙ seconds_after lead minutes hours rest well.1 well.2 after
