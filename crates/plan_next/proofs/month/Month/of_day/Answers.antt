-- Answers the clauses of `of_day`, that no step of its arithmetic overflows, and what `month_length` requires.
-- All of them follow from `IsDateOf-day`: the given fields are the date of the day. So its month begins as many days
-- earlier as the day of the month says, and ends a month's length later.
use Rattle.std.proofs.Common.{◌+◌, ◌-◌, ap, sym, ◌∙◌, arith}
use Rattle.plan_next.proofs.MonthLemmas.{IsDateOf-day}
use Rattle.plan_next.proofs.month.Month.of_day.Goals as goal

pub overflow_sub-first : goal.overflow_sub-first
overflow_sub-first c = let is = IsDateOf-day c.args.day c.args.civil.now c.requires.years c.requires.fields in omega arith

pub overflow_mul-result : goal.overflow_mul-result
overflow_mul-result c = let is = IsDateOf-day c.args.day c.args.civil.now c.requires.years c.requires.fields in omega arith

pub overflow_sub-result : goal.overflow_sub-result
overflow_sub-result c = let is = IsDateOf-day c.args.day c.args.civil.now c.requires.years c.requires.fields in omega arith

pub overflow_add-result : goal.overflow_add-result
overflow_add-result c = let is = IsDateOf-day c.args.day c.args.civil.now c.requires.years c.requires.fields in omega arith

pub month_length-requires-clause-year : goal.month_length-requires-clause-year
month_length-requires-clause-year c = (IsDateOf-day c.args.day c.args.civil.now c.requires.years c.requires.fields).year

pub month_length-requires-clause-month : goal.month_length-requires-clause-month
month_length-requires-clause-month c = (IsDateOf-day c.args.day c.args.civil.now c.requires.years c.requires.fields).month

pub returns : goal.returns
returns c =
    let is = IsDateOf-day c.args.day c.args.civil.now c.requires.years c.requires.fields in
    record {
      month = record {
        from = omega arith;
        to = omega arith;
        first_day = rw (c.from-2.ensures, c.from.ensures) is.first_day;
        end_is = rw c.from-2.ensures (ap (λ length. c.args.day + 1 - c.from.result + length)
            (c.from-3.ensures ∙ c.month_length.ensures ∙ sym is.length));
      };
      from = omega arith;
      to = omega arith;
    }
