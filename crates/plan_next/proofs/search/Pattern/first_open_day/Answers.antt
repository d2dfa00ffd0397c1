-- Answers the one clause of `first_open_day`, and that the next day's number does not overflow.
-- The loop's invariant: no day from `from` up to here matches. `IsOpen` adds what the search for a place in the month
-- found: the days that it skipped don't match (`not_open`), and if it found no place, no day does (`none_open`).
use Rattle.std.proofs.Common.{◌≡◌, ◌+◌, Some, None, inl, inr, ap, sym, ◌∙◌, arith}
use Rattle.std.proofs.lemmas.Bool.{cases_lt}
use Rattle.plan_next.specs.Search.{admits_date, admits_day}
use Rattle.plan_next.proofs.SearchLemmas.{IsOpen, ends_in_years, none_open, not_open}
use Rattle.plan_next.proofs.search.Pattern.first_open_day.Goals as goal

pub returns-in_err-place : goal.returns-in_err-place
returns-in_err-place c =
    let so_far = c.loop-day.invariant in
    let known : IsOpen c.args.self c.args.month c.args.from c.loop-day.day None =
    record {
      known = c.requires.month;
      start = c.requires.from;
      low = so_far.low;
      none = so_far.none;
      goes_on =
          c.in_err-place.ensures;
    } in
    rw c.from_residual.ensures (none_open c.args.self c.args.month c.args.from c.loop-day.day c.args.end known)

pub overflow_add-day-in-loop-day-2 : goal.overflow_add-day-in-loop-day-2
overflow_add-day-in-loop-day-2 c = let bound = ends_in_years c.args.month c.requires.month in omega arith

pub returns-then-passed-until : goal.returns-then-passed-until
returns-then-passed-until c = λ n low high.
    let so_far = c.loop-day.invariant in
    let known : IsOpen c.args.self c.args.month c.args.from c.loop-day.day (Some c.in_ok-place.place) =
    record {
      known = c.requires.month;
      start = c.requires.from;
      low = so_far.low;
      none = so_far.none;
      goes_on =
          c.in_ok-place.ensures;
    } in
    not_open c.args.self c.args.month c.args.from c.loop-day.day c.in_ok-place.place n known low (omega arith) (omega arith)

pub returns-then-admits_date : goal.returns-then-admits_date
returns-then-admits_date c =
    let so_far = c.loop-day.invariant in
    let known : IsOpen c.args.self c.args.month c.args.from c.loop-day.day (Some c.in_ok-place.place) =
    record {
      known = c.requires.month;
      start = c.requires.from;
      low = so_far.low;
      none = so_far.none;
      goes_on =
          c.in_ok-place.ensures;
    } in
    let after = known.goes_on.0 in
    let is = sym (c.admits_date.ensures ∙ ap (admits_date c.args.self) c.date.ensures) ∙ c.if-admits_date.true in (
      omega arith,
      omega arith,
      is,
      λ n low high. not_open c.args.self c.args.month c.args.from c.loop-day.day c.in_ok-place.place n
          known low (omega arith) (omega arith),
    )

pub loop-day-preserved : goal.loop-day-preserved
loop-day-preserved c =
    let so_far = c.loop-day.invariant in
    let known : IsOpen c.args.self c.args.month c.args.from c.loop-day.day (Some c.in_ok-place.place) =
    record {
      known = c.requires.month;
      start = c.requires.from;
      low = so_far.low;
      none = so_far.none;
      goes_on =
          c.in_ok-place.ensures;
    } in
    let after = known.goes_on.0 in
    record {
      low = omega arith;
      none = λ n low high. elim (cases_lt n (c.args.month.first + c.from-passed.result)) [
        | inl before ↦ not_open c.args.self c.args.month c.args.from c.loop-day.day c.in_ok-place.place n known low (omega arith)
            (omega arith)
        | inr here ↦
            let same : n ≡ c.args.month.first + c.from-passed.result = omega arith in
            ap (admits_day c.args.self) same ∙
            (sym (c.admits_date.ensures ∙ ap (admits_date c.args.self) c.date.ensures) ∙ c.if-admits_date.false)
      ];
    }
