-- Months and years that were said are read again.
use Rattle.std.proofs.Common.{◌≡◌, ℕ, ◌+◌, ◌<◌, Bool, true, false, ◌==◌, if◌then◌else◌, nat_lt, List, [], ◌∷◌, ◌++◌, Option, Some, None, refl, ap, sym, ◌∙◌, append_assoc, arith}
use Rattle.std.proofs.lemmas.Bool.Decides.{nat_tests}
use Rattle.plan_sets.specs.Limits.{last_year}
use Rattle.plan_words.specs.declared.names.Month.{Month}
use Rattle.plan_words.specs.Words.{Every, From, To, Of, In, Word, Key, Number}
use Rattle.plan_words.specs.Tree.{Span, Values, Steps, Items, Months, AllMonths, MonthRun, MonthList}
use Rattle.plan_words.specs.Sentence.{joined, number, is_single, span_words, until, years_words, years_after_month, month_name, when_words}
use Rattle.plan_words.specs.WellFormed.{AreYears, AreMonths}
use Rattle.plan_words.specs.ReadTime.{front, begins, is_number, is_month, list_at, spans_at, some_items, from_a}
use Rattle.plan_words.specs.ReadDays.{year_run, year_steps, years_at, with_months, month_at, after_names, month_run_at, is_named, when_at}
use Rattle.plan_words.proofs.TimeLemmas.{Ends, Starts, each_reads, list_starts, lists_again, span_starts, number_spans}

-- ---- years

-- what comes after months and years
pub record AfterWhen (rest : List Word) : Type 0 where
  pub ends : Ends rest
  pub no_in : begins In rest ≡ false
  pub from : begins From rest ≡ false
  pub number : is_number (front rest) ≡ false

year_run_by :
    (x : Span) (b : Bool) (rest : List Word) → (x.last == last_year) ≡ b → year_run x.first (until b x.last ++ rest) ≡ (Some (Items (x ∷ [])), rest)
year_run_by x true rest is =
    let same : x.last ≡ last_year = grind (arith, nat_tests) in
    ap (λ n. (Some (Items (record { first = x.first; last = n } ∷ [])), rest)) (sym same)
year_run_by x false rest is = refl

year_steps_by :
    (first last step : ℕ) (b : Bool) (rest : List Word) → nat_lt last_year (last + step) ≡ b → AreYears (Some (Steps first last step)) →
    year_steps step first (until b last ++ rest) ≡ (Some (Steps first last step), rest)
year_steps_by first last step true rest is well =
    let large : last_year < last + step = grind (arith, nat_tests) in
    ap (λ n. (Some (Steps first n step), rest)) (sym (well large))
year_steps_by first last step false rest is well = refl

one_year :
    (x : Span) (b : Bool) (rest : List Word) → is_single x ≡ b → AfterWhen rest →
    years_at ((if b then Key In ∷ Number x.first ∷ [] else Key From ∷ Number x.first ∷ until (x.last == last_year) x.last) ++ rest)
    ≡ (Some (Items (x ∷ [])), rest)
one_year x true rest is after =
    ap (λ b. some_items (spans_at ((if b then number x.first else number x.first ++ Key To ∷ number x.last) ++ rest))) (sym is)
    ∙ ap some_items (number_spans x [] rest after.ends)
one_year x false rest is after = year_run_by x (x.last == last_year) rest refl

in_items : (words : List Word) → begins Every words ≡ false → years_at (Key In ∷ words) ≡ some_items (spans_at words)
in_items words is = rw (is, years_at) refl

no_years : (rest : List Word) → AfterWhen rest → years_at rest ≡ (None, rest)
no_years rest after = rw (after.no_in, after.from, years_at, from_a) refl

number_first : (xs : List Span) (x : Span) → Starts (begins Every) false (joined (span_words number) (x ∷ xs))
number_first xs x = list_starts (span_words number) (begins Every) false x xs (span_starts number (begins Every) false x (λ rest. refl))

pub years_again : (years : Option Values) (rest : List Word) → AreYears years → AfterWhen rest → years_at (years_words years ++ rest) ≡ (years, rest)
years_again None rest well after = no_years rest after
years_again (Some (Steps first last step)) rest well after = year_steps_by first last step (nat_lt last_year (last + step)) rest refl well
years_again (Some (Items [])) rest well after = absurd well
years_again (Some (Items (x ∷ []))) rest well after = one_year x (is_single x) rest refl after
years_again (Some (Items (x ∷ y ∷ more))) rest well after =
    in_items (joined (span_words number) (x ∷ y ∷ more) ++ rest) (number_first (y ∷ more) x rest)
    ∙ ap some_items (number_spans x (y ∷ more) rest after.ends)

-- ---- what the years begin with

-- a test fails on the words of the years
abbrev Fails : (List Word → Bool) → Type 0
Fails test = (years : Option Values) (rest : List Word) → AreYears years → AfterWhen rest → test (years_words years ++ rest) ≡ false

abbrev pub in_a_month : List Word → Bool
in_a_month words = is_named In words

month_first : (xs : List Span) (x : Span) → Starts (λ ws. is_month (front ws)) false (joined (span_words number) (x ∷ xs))
month_first xs x =
    list_starts (span_words number) (λ ws. is_month (front ws)) false x xs (span_starts number (λ ws. is_month (front ws)) false x (λ rest. refl))

one_no_month :
    (x : Span) (b : Bool) (rest : List Word) →
    is_named In ((if b then Key In ∷ Number x.first ∷ [] else Key From ∷ Number x.first ∷ until (x.last == last_year) x.last) ++ rest) ≡ false
one_no_month x true rest = refl
one_no_month x false rest = refl

years_no_month : Fails (is_named In)
years_no_month None rest well after = rw (after.no_in, is_named) refl
years_no_month (Some (Steps first last step)) rest well after = refl
years_no_month (Some (Items [])) rest well after = absurd well
years_no_month (Some (Items (x ∷ []))) rest well after = one_no_month x (is_single x) rest
years_no_month (Some (Items (x ∷ y ∷ more))) rest well after = rw (month_first (y ∷ more) x rest, is_named) refl

one_no_run :
    (x : Span) (b : Bool) (rest : List Word) →
    from_a is_month ((if b then Key In ∷ Number x.first ∷ [] else Key From ∷ Number x.first ∷ until (x.last == last_year) x.last) ++ rest) ≡ false
one_no_run x true rest = refl
one_no_run x false rest = refl

years_no_run : Fails (from_a is_month)
years_no_run None rest well after = rw (after.from, from_a) refl
years_no_run (Some (Steps first last step)) rest well after = refl
years_no_run (Some (Items [])) rest well after = absurd well
years_no_run (Some (Items (x ∷ []))) rest well after = one_no_run x (is_single x) rest
years_no_run (Some (Items (x ∷ y ∷ more))) rest well after = refl

one_ends :
    (x : Span) (b : Bool) (rest : List Word) →
    Ends ((if b then Key In ∷ Number x.first ∷ [] else Key From ∷ Number x.first ∷ until (x.last == last_year) x.last) ++ rest)
one_ends x true rest = record { to = refl; also = refl; more = refl }
one_ends x false rest = record { to = refl; also = refl; more = refl }

pub years_end : (years : Option Values) (rest : List Word) → AreYears years → AfterWhen rest → Ends (years_words years ++ rest)
years_end None rest well after = after.ends
years_end (Some (Steps first last step)) rest well after = record { to = refl; also = refl; more = refl }
years_end (Some (Items [])) rest well after = absurd well
years_end (Some (Items (x ∷ []))) rest well after = one_ends x (is_single x) rest
years_end (Some (Items (x ∷ y ∷ more))) rest well after = record { to = refl; also = refl; more = refl }

-- ---- years after a single month

single_year :
    (m : Month) (x : Span) (b : Bool) (rest : List Word) → is_single x ≡ b → AfterWhen rest →
    after_names (m ∷ [], (if b then Number x.first ∷ [] else Key From ∷ Number x.first ∷ until (x.last == last_year) x.last) ++ rest)
    ≡ ((MonthList (m ∷ []), Some (Items (x ∷ []))), rest)
single_year m x true rest is after =
    let same : x.first ≡ x.last = grind (arith, nat_tests) in
    ap (λ n. ((MonthList (m ∷ []), Some (Items (record { first = x.first; last = n } ∷ []))), rest)) same
single_year m x false rest is after = ap (with_months (MonthList (m ∷ []))) (year_run_by x (x.last == last_year) rest refl)

years_after :
    (m : Month) (years : Option Values) (rest : List Word) → AreYears years → AfterWhen rest →
    after_names (m ∷ [], years_after_month years ++ rest) ≡ ((MonthList (m ∷ []), years), rest)
years_after m None rest well after = rw (after.number, after_names) (ap (with_months (MonthList (m ∷ []))) (no_years rest after))
years_after m (Some (Steps first last step)) rest well after =
    ap (with_months (MonthList (m ∷ []))) (years_again (Some (Steps first last step)) rest well after)
years_after m (Some (Items [])) rest well after = absurd well
years_after m (Some (Items (x ∷ []))) rest well after = single_year m x (is_single x) rest refl after
years_after m (Some (Items (x ∷ y ∷ more))) rest well after =
    ap (with_months (MonthList (m ∷ []))) (years_again (Some (Items (x ∷ y ∷ more))) rest well after)

single_ends :
    (x : Span) (b : Bool) (rest : List Word) →
    Ends ((if b then Number x.first ∷ [] else Key From ∷ Number x.first ∷ until (x.last == last_year) x.last) ++ rest)
single_ends x true rest = record { to = refl; also = refl; more = refl }
single_ends x false rest = record { to = refl; also = refl; more = refl }

after_month_ends : (years : Option Values) (rest : List Word) → AreYears years → AfterWhen rest → Ends (years_after_month years ++ rest)
after_month_ends None rest well after = after.ends
after_month_ends (Some (Steps first last step)) rest well after = record { to = refl; also = refl; more = refl }
after_month_ends (Some (Items [])) rest well after = absurd well
after_month_ends (Some (Items (x ∷ []))) rest well after = single_ends x (is_single x) rest
after_month_ends (Some (Items (x ∷ y ∷ more))) rest well after = record { to = refl; also = refl; more = refl }

-- ---- months

months_again :
    (x : Month) (xs : List Month) (rest : List Word) → Ends rest → list_at month_at (joined month_name (x ∷ xs) ++ rest) ≡ (x ∷ xs, rest)
months_again x xs rest end =
    lists_again month_name month_at x xs rest (each_reads month_name month_at (λ m rest to. refl) (λ m rest. refl) (x ∷ xs)) end

names_first : (x : Month) (xs : List Month) → Starts (λ ws. is_month (front ws)) true (joined month_name (x ∷ xs))
names_first x xs = list_starts month_name (λ ws. is_month (front ws)) true x xs (λ rest. refl)

at_names_of : (words : List Word) → is_month (front words) ≡ true → when_at true (Key Of ∷ words) ≡ after_names (list_at month_at words)
at_names_of words is = rw (is, when_at, is_named) refl

at_names_in : (words : List Word) → is_month (front words) ≡ true → when_at false (Key In ∷ words) ≡ after_names (list_at month_at words)
at_names_in words is = rw (is, when_at, is_named) refl

-- several names of months
many_names :
    (x y : Month) (more : List Month) (years : Option Values) (rest : List Word) → AreYears years → AfterWhen rest →
    after_names (list_at month_at (joined month_name (x ∷ y ∷ more) ++ (years_words years ++ rest))) ≡ ((MonthList (x ∷ y ∷ more), years), rest)
many_names x y more years rest well after =
    ap after_names (months_again x (y ∷ more) (years_words years ++ rest) (years_end years rest well after))
    ∙ ap (with_months (MonthList (x ∷ y ∷ more))) (years_again years rest well after)

all_months :
    (years : Option Values) (rest : List Word) → AreYears years → AfterWhen rest →
    month_run_at (years_words years ++ rest) ≡ ((AllMonths, years), rest)
all_months years rest well after =
    rw (years_no_run years rest well after, month_run_at) (ap (with_months AllMonths) (years_again years rest well after))

pub when_again :
    (after_dates : Bool) (months : Months) (years : Option Values) (rest : List Word) → AreMonths months → AreYears years → AfterWhen rest →
    when_at after_dates (when_words after_dates months years ++ rest) ≡ ((months, years), rest)
when_again true AllMonths years rest good well after = all_months years rest well after
when_again false AllMonths years rest good well after =
    rw (years_no_month years rest well after, when_at) (all_months years rest well after)
when_again true (MonthRun first last) years rest good well after = ap (with_months (MonthRun first last)) (years_again years rest well after)
when_again false (MonthRun first last) years rest good well after = ap (with_months (MonthRun first last)) (years_again years rest well after)
when_again d (MonthList []) years rest good well after = absurd good
when_again true (MonthList (x ∷ [])) years rest good well after =
    ap after_names (months_again x [] (years_after_month years ++ rest) (after_month_ends years rest well after)) ∙ years_after x years rest well after
when_again false (MonthList (x ∷ [])) years rest good well after =
    ap after_names (months_again x [] (years_after_month years ++ rest) (after_month_ends years rest well after)) ∙ years_after x years rest well after
when_again true (MonthList (x ∷ y ∷ more)) years rest good well after =
    let words = joined month_name (x ∷ y ∷ more) in
    ap (λ ws. when_at true (Key Of ∷ ws)) (append_assoc words (years_words years) rest)
    ∙ at_names_of (words ++ (years_words years ++ rest)) (names_first x (y ∷ more) (years_words years ++ rest))
    ∙ many_names x y more years rest well after
when_again false (MonthList (x ∷ y ∷ more)) years rest good well after =
    let words = joined month_name (x ∷ y ∷ more) in
    ap (λ ws. when_at false (Key In ∷ ws)) (append_assoc words (years_words years) rest)
    ∙ at_names_in (words ++ (years_words years ++ rest)) (names_first x (y ∷ more) (years_words years ++ rest))
    ∙ many_names x y more years rest well after

-- what months and years begin with doesn't go on with a list
pub when_ends :
    (months : Months) (years : Option Values) (rest : List Word) → AreMonths months → AreYears years → AfterWhen rest →
    Ends (when_words false months years ++ rest)
when_ends AllMonths years rest good well after = years_end years rest well after
when_ends (MonthRun first last) years rest good well after = record { to = refl; also = refl; more = refl }
when_ends (MonthList []) years rest good well after = absurd good
when_ends (MonthList (x ∷ [])) years rest good well after = record { to = refl; also = refl; more = refl }
when_ends (MonthList (x ∷ y ∷ more)) years rest good well after = record { to = refl; also = refl; more = refl }
