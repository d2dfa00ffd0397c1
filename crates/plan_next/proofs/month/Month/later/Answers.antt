-- Answers clause `month` of `later`, and that the end of the month does not overflow.
-- Both need that the day found is the first of month `number`. For the next month that day is the end of this one
-- (`IsFirstDay-end_of`); for any other month `first_day` returns it.
use Rattle.std.proofs.Common.{sym, subst, arith}
use Rattle.plan_sets.specs.Months.{IsFirstDay}
use Rattle.plan_sets.specs.MonthsLaws.{IsFirstDay-le_end}
use Rattle.plan_next.proofs.SearchLemmas.{IsFirstDay-end_of}
use Rattle.plan_next.proofs.month.Month.later.Goals as goal
use Rattle.plan_next.proofs.month.Month.later.Goals.{then-number-self, else-number-self}
use Rattle.std.proofs.lemmas.Bool.Decides.{nat_tests}

pub overflow_add-result : goal.overflow_add-result
overflow_add-result c =
    let last = c.requires.to in
    let first : IsFirstDay c.args.number c.if-number-self.first = elim c.if-number-self.branch [
      | then-number-self w ↦
          rw w.first-is (subst (λ m. IsFirstDay m c.args.self.end) (sym w.if-number-self.true)
          (IsFirstDay-end_of c.args.self c.requires.month))
      | else-number-self w ↦ rw w.first-is w.first_day-first.ensures
    ] in
    let known = IsFirstDay-le_end c.args.number c.if-number-self.first (omega arith) first in
    omega arith

pub returns-clause-month : goal.returns-clause-month
returns-clause-month c = grind (arith, nat_tests, IsFirstDay-end_of)
