-- The text of an agenda is read back.
use Rattle.std.proofs.Common.{◌≡◌, ℕ, zero, suc, ◌+◌, ◌-◌, ◌<◌, ◌≤◌, ◌^◌, ◌==◌, ◌||◌, nat_lt, Bool, true, false, true≢false, if◌then◌else◌, ℤ, pos, negsuc, nat_abs, List, [], ◌∷◌, ◌++◌, codes, decimal, length, map, Option, None, Some, Ok, min, option_map, slice_get, arith, inl, inr, refl, subst, sym}
use Rattle.std.proofs.lemmas.Bool.{and_parts}
use Rattle.std.proofs.lemmas.Bool.Decides.{nat_tests}
use Rattle.std.proofs.lemmas.Fmt.{IsAscii-decimal, decimal_is_IsNumeral}
use Rattle.std.proofs.lemmas.List.{append_assoc}
use Rattle.std.proofs.lemmas.Option.{slice_get-map}
use Rattle.std.proofs.lemmas.Str.{IsUtf8-append, IsUtf8-from_ascii}
use Rattle.std.proofs.lemmas.Str.Parse.{digit_from_value}
use Rattle.std.specs.List.{flat_map, list_all}
use Rattle.std.specs.Str.{IsUtf8}
use Rattle.std.specs.Str.Parse.{AllDigits}
use Rattle.plan_sets.specs.Limits.{end_second}
use Rattle.plan_sets.specs.Moment.{moment_text_of}
use Rattle.plan_clock.specs.Rows.{is_bounded, is_near, natural, row_at, shown}
use Rattle.plan_clock.specs.declared.row.Row.{Row}
use Rattle.plan_clock.proofs.RowLemmas.{bounded_at}
use Rattle.plan_rules.specs.Job.{JobParts}
use Rattle.plan_rules.specs.declared.NamedZone.{NamedZone}
use Rattle.plan_collect.specs.Agenda.{IsOfJobs, Planned}
use Rattle.plan_write.specs.LocalTimes.{date_time, is_in_years, local_text, offset_text}
use Rattle.plan_write.specs.Texts.{agenda_text, line_end, line_of, lines_of, run_text, zone_mark}
use Rattle.plan_write.specs.TimeFields.{time_text}
use Rattle.plan_write.specs.declared.formats.Format.{Format}
use Rattle.plan_baseline.specs.Line.{Line}
use Rattle.plan_baseline.specs.ReadBack.{AgendasAreReadBack, AreInOrder, AreReadable, HasNone, IsAgenda, IsColumn, IsReadable, IsZone, line_of_job, listing_of}
use Rattle.plan_baseline.specs.Reading.{AreRead, BeginsWithHeader, BeginsWithLine, Head, IsReading, is_mark}
use Rattle.plan_baseline.specs.Times.{IsLocal, IsTimeOf}
use Rattle.plan_baseline.proofs.CutLemmas.{cut_first}
use Rattle.plan_baseline.proofs.LineLemmas.{ascii_utf8, columns_first, line_first, none_append, tab_utf8}
use Rattle.plan_baseline.proofs.LoopLemmas.{all_read, one_more}
use Rattle.plan_baseline.proofs.PlainLemmas.{Plain, moment_plain, plain_none, plain_utf8, time_plain}
use Rattle.plan_baseline.proofs.UniqueLemmas.{reading_unique}

-- ---- times

-- the text is that of a second, and has no tab and no newline
record IsTimeText (text : List ℕ) (second : ℕ) : Type 0 where
  is : IsTimeOf text second
  plain : Plain text

utc_text : (n : ℕ) → n ≤ end_second → IsTimeText (moment_text_of n) n
utc_text n years = record { is = (years, inl refl); plain = moment_plain n years }

near_offset : (offset : ℤ) → is_near offset ≡ true → nat_abs offset < 360000
near_offset (pos n) near = grind (arith, nat_tests)
near_offset (negsuc n) near = grind (arith, nat_tests)

in_years : (z : ℤ) → is_in_years z ≡ true → (natural z ≤ end_second) × (pos (natural z) ≡ z)
in_years (pos n) is = (grind (arith, nat_tests), refl)
in_years (negsuc n) is = absurd (true≢false (sym is))

row_time :
    (row : Row) (n : ℕ) (is : Bool) → is_bounded row ≡ true → n ≤ end_second → is_in_years (shown row n) ≡ is →
    IsTimeText (if is then date_time (natural (shown row n)) ++ offset_text row.offset else moment_text_of n) n
row_time row n false bounded years is = utc_text n years
row_time row n true bounded years is =
    let near = near_offset row.offset (and_parts (is_near row.before) (is_near row.offset) bounded).1 in
    let inside = in_years (shown row n) is in
    let local : IsLocal (date_time (natural (shown row n)) ++ offset_text row.offset) n = record {
      shown = natural (shown row n);
      offset = row.offset;
      years = inside.0;
      near = near;
      text_is = refl;
      shown_is = inside.1;
    } in
    record {
      is = (years, inr local);
      plain = time_plain _ n (years, inr local);
    }

time_is : (local : Option NamedZone) (n : ℕ) → IsZone local → n ≤ end_second → IsTimeText (time_text local n) n
unfolding local_text
time_is None n zone years = utc_text n years
time_is (Some at) n zone years =
    let row = row_at at.clock (min n (end_second - 1)) in
    row_time row n (is_in_years (shown row n)) (bounded_at at.clock (min n (end_second - 1)) zone.0) years refl

-- ---- lines

-- text is written with the times of a zone, or of UTC
abbrev in_text : Option NamedZone → Format
in_text local = record { json = false; local = local }

line_shape :
    (time name runs rest : List ℕ) →
    ((time ++ 9 ∷ []) ++ (name ++ 9 ∷ (runs ++ 10 ∷ []))) ++ rest ≡ (time ++ 9 ∷ (name ++ 9 ∷ runs)) ++ 10 ∷ rest
line_shape time name runs rest = simp append_assoc

job_begins :
    (local : Option NamedZone) (from upto second : ℕ) (job : JobParts) (rest : List ℕ) → IsZone local → IsReadable job → from ≤ second →
    second < upto → upto ≤ end_second →
    BeginsWithLine from upto (line_of (in_text local) false (Some second) (Some (line_end false job)) ++ rest)
    (record { second = second; job = job.name; runs = run_text job.user job.command }) rest
job_begins local from upto second job rest zone readable after before years =
    let time = time_text local second in
    let runs = run_text job.user job.command in
    let is = time_is local second zone (omega (arith, before, years)) in
    let line = time ++ 9 ∷ (job.name ++ 9 ∷ runs) in
    let newline : HasNone 10 line =
    none_append 10 time (9 ∷ (job.name ++ 9 ∷ runs)) (plain_none 10 time (omega arith) is.plain)
    (none_append 10 job.name (9 ∷ runs) readable.name.newline readable.newline) in
    let utf8 : IsUtf8 line =
    IsUtf8-append time (9 ∷ (job.name ++ 9 ∷ runs)) (plain_utf8 time is.plain)
    (tab_utf8 (job.name ++ 9 ∷ runs) (IsUtf8-append job.name (9 ∷ runs) readable.name.utf8 (tab_utf8 runs readable.utf8))) in (
      line,
      line_first _ line rest (line_shape time job.name runs rest) newline utf8,
      record {
        time = time;
        columns_are = columns_first time job.name runs (plain_none 9 time (omega arith) is.plain) readable.name.tab;
        time_is = is.is;
        after = after;
        before = before;
      },
    )

none_past : (jobs : List JobParts) (k : ℕ) → slice_get jobs k ≡ None → length jobs ≤ k
none_past [] k none = omega arith
none_past (job ∷ jobs) zero none = absurd (cc none)
none_past (job ∷ jobs) (suc k) none = omega (arith, none_past jobs k none)

readable_at : (jobs : List JobParts) (k : ℕ) (job : JobParts) → AreReadable jobs → slice_get jobs k ≡ Some job → IsReadable job
readable_at [] k job all is = absurd (cc is)
readable_at (first ∷ jobs) zero job all is = grind (arith, nat_tests)
readable_at (first ∷ jobs) (suc k) job all is = readable_at jobs k job all.1 is

entry_read :
    (local : Option NamedZone) (left number upto from second : ℕ) (jobs : List JobParts) (k : ℕ) (found : Option JobParts)
    (rest : List ℕ) (later : List Line) → slice_get jobs k ≡ found → k < length jobs → IsZone local → AreReadable jobs → from ≤ second →
    second < upto → upto ≤ end_second → AreRead left (number + 1) upto second rest (Ok later) →
    AreRead (suc left) number upto from (line_of (in_text local) false (Some second) (option_map (line_end false) found) ++ rest)
    (Ok (line_of_job second found ++ later))
entry_read local left number upto from second jobs k None rest later is short zone readable after before years are =
    absurd (omega (arith, none_past jobs k is, short))
entry_read local left number upto from second jobs k (Some job) rest later is short zone readable after before years are =
    one_more left number upto from _ (record { second = second; job = job.name; runs = run_text job.user job.command }) rest (Ok later)
    (job_begins local from upto second job rest zone (readable_at jobs k job readable is) after before years) are

-- the lines that are left of an agenda
abbrev text_of : Option NamedZone → List JobParts → List (ℕ × ℕ) → List ℕ
text_of local jobs entries = lines_of (in_text local) false entries (map (line_end false) jobs)

abbrev lines_from : List JobParts → List (ℕ × ℕ) → List Line
lines_from jobs entries = flat_map (λ entry. line_of_job entry.0 (slice_get jobs entry.1)) entries

entries_read :
    (local : Option NamedZone) (number upto from : ℕ) (jobs : List JobParts) (entries : List (ℕ × ℕ)) → IsZone local → AreReadable jobs →
    AreInOrder from upto entries → IsOfJobs (length jobs) entries → upto ≤ end_second →
    AreRead (length entries) number upto from (text_of local jobs entries) (Ok (lines_from jobs entries))
entries_read local number upto from jobs [] zone readable ordered of_jobs years = all_read number upto from []
entries_read local number upto from jobs (entry ∷ entries) zone readable ordered of_jobs years =
    let parts = and_parts (nat_lt entry.1 (length jobs)) (list_all (λ entry. nat_lt entry.1 (length jobs)) entries) of_jobs in
    let short : entry.1 < length jobs = (let is = parts.0 in grind (arith, nat_tests)) in
    let later = entries_read local (number + 1) upto entry.0 jobs entries zone readable ordered.2 parts.1 years in
    let rest = text_of local jobs entries in
    let lines = lines_from jobs entries in
    subst
    (λ end. AreRead (suc (length entries)) number upto from (line_of (in_text local) false (Some entry.0) end ++ rest)
    (Ok (line_of_job entry.0 (slice_get jobs entry.1) ++ lines))) (sym (slice_get-map (line_end false) jobs entry.1))
    (entry_read local (length entries) number upto from entry.0 jobs entry.1 (slice_get jobs entry.1) rest lines refl short zone readable
    ordered.0 ordered.1 years later)

-- ---- the header

mark_is : (local : Option NamedZone) → IsZone local → is_mark (codes "agenda 2" ++ zone_mark local) ≡ true
mark_is None zone = refl
mark_is (Some at) zone = grind (arith, nat_tests)

mark_column : (local : Option NamedZone) → IsZone local → IsColumn (codes "agenda 2" ++ zone_mark local)
mark_column None zone = record { utf8 = ascii_utf8 (codes "agenda 2") refl; tab = refl; newline = refl }
mark_column (Some at) zone = record {
  utf8 = IsUtf8-append (codes "agenda 2 ") at.name (ascii_utf8 (codes "agenda 2 ") refl) zone.1.utf8;
  tab = zone.1.tab;
  newline = zone.1.newline;
}

digits_none : (digits : List ℕ) → AllDigits 10 digits → HasNone 10 digits
digits_none [] all = refl
digits_none (b ∷ digits) all =
    let range = digit_from_value b all.0 in
    let here : (b == 10) ≡ false = grind (arith, nat_tests, range) in
    λ i. here i || digits_none digits all.1 i

header_shape :
    (version zone since upto count rest : List ℕ) →
    (version ++ (zone ++ ((9 ∷ ((since ++ 9 ∷ []) ++ (upto ++ 9 ∷ []))) ++ (count ++ 10 ∷ [])))) ++ rest
    ≡ ((version ++ zone) ++ 9 ∷ (since ++ 9 ∷ (upto ++ 9 ∷ count))) ++ 10 ∷ rest
header_shape version zone since upto count rest = simp append_assoc

-- what the header of an agenda says
abbrev head_for : Planned → Head
head_for made = record { span = made.span; count = length made.entries }

header_begins :
    (local : Option NamedZone) (made : Planned) (jobs : List JobParts) → IsZone local → IsAgenda made jobs →
    BeginsWithHeader (agenda_text (in_text local) false made jobs) (head_for made) (text_of local jobs made.entries)
header_begins local made jobs zone agenda =
    let mark = codes "agenda 2" ++ zone_mark local in
    let since = time_text local made.span.since in
    let upto = time_text local made.span.upto in
    let count = decimal (length made.entries) in
    let few : length made.entries < 2 ^ 64 = omega (arith, agenda.few) in
    let first = time_is local made.span.since zone (omega (arith, agenda.ordered, agenda.years)) in
    let last = time_is local made.span.upto zone agenda.years in
    let mark_column = mark_column local zone in
    let line = mark ++ 9 ∷ (since ++ 9 ∷ (upto ++ 9 ∷ count)) in
    let newline : HasNone 10 line =
    none_append 10 mark (9 ∷ (since ++ 9 ∷ (upto ++ 9 ∷ count))) mark_column.newline
    (none_append 10 since (9 ∷ (upto ++ 9 ∷ count)) (plain_none 10 since (omega arith) first.plain)
    (none_append 10 upto (9 ∷ count) (plain_none 10 upto (omega arith) last.plain)
    (digits_none count (decimal_is_IsNumeral (length made.entries) few).0.1))) in
    let utf8 : IsUtf8 line =
    IsUtf8-append mark (9 ∷ (since ++ 9 ∷ (upto ++ 9 ∷ count))) mark_column.utf8
    (tab_utf8 (since ++ 9 ∷ (upto ++ 9 ∷ count)) (IsUtf8-append since (9 ∷ (upto ++ 9 ∷ count)) (plain_utf8 since first.plain)
    (tab_utf8 (upto ++ 9 ∷ count) (IsUtf8-append upto (9 ∷ count) (plain_utf8 upto last.plain)
    (tab_utf8 count (IsUtf8-from_ascii count (IsAscii-decimal (length made.entries) few))))))) in (
      line,
      line_first _ line (text_of local jobs made.entries)
          (header_shape (codes "agenda 2") (zone_mark local) since upto count (text_of local jobs made.entries)) newline utf8,
      record {
        mark = mark;
        since = since;
        rest = upto ++ 9 ∷ count;
        upto = upto;
        count = count;
        columns_are = columns_first mark since (upto ++ 9 ∷ count) mark_column.tab (plain_none 9 since (omega arith) first.plain);
        rest_is = cut_first 9 upto count (plain_none 9 upto (omega arith) last.plain);
        mark_is = mark_is local zone;
        count_is = (refl, agenda.few);
        span_is = (first.is, last.is, agenda.ordered);
      },
    )

-- ---- the law

whole_read :
    (local : Option NamedZone) (made : Planned) (jobs : List JobParts) → IsZone local → AreReadable jobs → IsAgenda made jobs →
    IsReading (agenda_text (in_text local) false made jobs) (Ok (listing_of made jobs))
whole_read local made jobs zone readable agenda = (
  Some (head_for made, text_of local jobs made.entries),
  header_begins local made jobs zone agenda,
  (
    Ok (lines_from jobs made.entries),
    entries_read local 2 made.span.upto made.span.since jobs made.entries zone readable agenda.entries agenda.of_jobs agenda.years,
    refl,
  ),
)

pub read_back : AgendasAreReadBack
read_back format made jobs text zone readable agenda reading =
    let same : in_text format.local ≡ format = λ i. record { json = sym text i; local = format.local } in
    let read : IsReading (agenda_text format false made jobs) (Ok (listing_of made jobs)) =
    subst (λ f. IsReading (agenda_text f false made jobs) (Ok (listing_of made jobs))) same
    (whole_read format.local made jobs zone readable agenda) in (
      λ is. reading_unique (agenda_text format false made jobs) reading (Ok (listing_of made jobs)) is read,
      λ is. subst (IsReading (agenda_text format false made jobs)) (sym is) read,
    )
