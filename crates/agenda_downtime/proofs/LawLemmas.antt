-- The laws of the table: each job that misses something has a row, and each row has one outcome.
use Rattle.std.proofs.Common.{◌≡◌, ℕ, ◌+◌, Bool, true, false, cond, List, [], ◌∷◌, ◌++◌, length, map, Option, None, Some, refl, ap, sym, ◌∙◌, arith}
use Rattle.std.specs.Prelude.{slice_get}
use Rattle.std.specs.List.{cons_option, filter_map, range_with_len}
use Rattle.std.proofs.lemmas.List.{map-append}
use Rattle.std.proofs.lemmas.List.Elements.{filter_map-append}
use Rattle.std.proofs.lemmas.List.Sums.{sum_by-cons}
use Rattle.plan_collect.specs.Agenda.{Planned}
use Rattle.plan_rules.specs.Job.{JobParts}
use Rattle.plan_downtime.specs.Downtime.{boot_by, boot_of, missed_at_boot, missed_by, missed_by_entries, missed_of, missed_starts}
use Rattle.plan_downtime.specs.Missed.{MissedParts}
use Rattle.plan_downtime.specs.Outcome.{is_reboot}
use Rattle.plan_downtime.specs.Tally.{numbers_of, seconds_of, tally_of}
use Rattle.plan_downtime.specs.declared.outcome.Outcome.{Outcome}
use Rattle.plan_downtime.specs.declared.outcome.Outcome.TheVariants.{AtBoot, Lost, MadeUp}
use Rattle.agenda_downtime.specs.Last.{count_with, is_same}
use Rattle.agenda_downtime.specs.Rows.{MissedTexts, missed_texts, texts_if}

-- ---- rows

-- what the rows of these say that is missed
abbrev pub missed_in_rows : List JobParts → List MissedParts → List MissedParts
missed_in_rows jobs missed = map (λ row. row.missed) (missed_texts jobs missed)

-- there is a job with this number
abbrev pub IsJob : List JobParts → (number : ℕ) → Type 0
IsJob jobs number = (job : JobParts) × (slice_get jobs number ≡ Some job)

some_same : {X : Type 0} (x y : X) → Some x ≡ Some y → x ≡ y
some_same x y is = cc

-- what jobs miss, made number by number, has rows if there are these jobs
rows_by :
    (jobs : List JobParts) (line : ℕ → Option MissedParts) → ((n : ℕ) (one : MissedParts) → line n ≡ Some one → IsJob jobs one.job) →
    (numbers : List ℕ) → missed_in_rows jobs (filter_map line numbers) ≡ filter_map line numbers
rows_by jobs line are [] = refl
rows_by jobs line are (n ∷ numbers) = go (line n) refl (rows_by jobs line are numbers) where
  go :
      (at : Option MissedParts) → at ≡ line n → missed_in_rows jobs (filter_map line numbers) ≡ filter_map line numbers →
      missed_in_rows jobs (cons_option at (filter_map line numbers)) ≡ cons_option at (filter_map line numbers)
  go None is later = later
  go (Some one) is later =
      let (job, own) = are n one (sym is) in
      rw own (ap (λ (missed : List MissedParts). one ∷ missed) later)

-- what a job misses has the number of a job
job_by_tally :
    (jobs : List JobParts) (n : ℕ) (job : Option JobParts) (tally : _) (one : MissedParts) → job ≡ slice_get jobs n →
    missed_by n job tally ≡ Some one → IsJob jobs one.job
job_by_tally jobs n None tally one found is = cc
job_by_tally jobs n (Some job) None one found is = cc
job_by_tally jobs n (Some job) (Some tally) one found is =
    (job, ap (λ (m : MissedParts). slice_get jobs m.job) (sym (some_same _ one is)) ∙ sym found)

job_at_boot :
    (jobs : List JobParts) (upto n : ℕ) (job : Option JobParts) (one : MissedParts) → job ≡ slice_get jobs n →
    boot_by upto n job ≡ Some one → IsJob jobs one.job
job_at_boot jobs upto n None one found is = cc
job_at_boot jobs upto n (Some job) one found is = go (is_reboot job.rule) is where
  go :
      (reboot : Bool) →
      cond reboot (Some (record { first = upto; last = upto; count = 1; outcome = AtBoot; job = n })) None ≡ Some one → IsJob jobs one.job
  go true made = (job, ap (λ (m : MissedParts). slice_get jobs m.job) (sym (some_same _ one made)) ∙ sym found)
  go false made = cc

rows_of_both :
    (jobs : List JobParts) (xs ys : List MissedParts) → missed_in_rows jobs xs ≡ xs → missed_in_rows jobs ys ≡ ys →
    missed_in_rows jobs (xs ++ ys) ≡ xs ++ ys
rows_of_both jobs xs ys first second =
    ap (λ (rows : List MissedTexts). map (λ (row : MissedTexts). row.missed) rows)
    (filter_map-append (λ (one : MissedParts). texts_if one (slice_get jobs one.job)) xs ys)
    ∙ map-append (λ (row : MissedTexts). row.missed) (missed_texts jobs xs) (missed_texts jobs ys) ∙ (λ i. first i ++ second i)

pub each_row : (jobs : List JobParts) (made : Planned) → missed_in_rows jobs (missed_starts jobs made) ≡ missed_starts jobs made
each_row jobs made =
    let upto = made.span.upto in
    rows_of_both jobs (missed_by_entries jobs made.entries) (missed_at_boot jobs upto)
    (rows_by jobs (missed_of jobs made.entries)
    (λ n one is. job_by_tally jobs n (slice_get jobs n) (tally_of (seconds_of made.entries n)) one refl is)
    (numbers_of made.entries))
    (rows_by jobs (boot_of jobs upto) (λ n one is. job_at_boot jobs upto n (slice_get jobs n) one refl is)
    (range_with_len 0 (length jobs)))

-- ---- outcomes

-- 1 for the same outcome, and 0 for another
abbrev pub one_if : Outcome → Outcome → ℕ
one_if one other = cond (is_same one other) 1 0

one_outcome : (outcome : Outcome) → one_if outcome Lost + (one_if outcome MadeUp + one_if outcome AtBoot) ≡ 1
one_outcome Lost = refl
one_outcome MadeUp = refl
one_outcome AtBoot = refl

one_more :
    (outcome : Outcome) (row : MissedTexts) (rows : List MissedTexts) →
    count_with outcome (row ∷ rows) ≡ one_if row.missed.outcome outcome + count_with outcome rows
one_more outcome row rows = sum_by-cons (λ (r : MissedTexts). one_if r.missed.outcome outcome) row rows

pub add_up : (rows : List MissedTexts) → count_with Lost rows + (count_with MadeUp rows + count_with AtBoot rows) ≡ length rows
add_up [] = refl
add_up (row ∷ rows) =
    let lost = one_more Lost row rows in
    let made_up = one_more MadeUp row rows in
    let at_boot = one_more AtBoot row rows in
    let one = one_outcome row.missed.outcome in
    let later = add_up rows in
    omega (arith, lost, made_up, at_boot, one, later)
