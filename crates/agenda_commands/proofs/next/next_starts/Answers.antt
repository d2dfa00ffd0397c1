-- Each turn of the loop finds one more start, up to the last requested one, or to the last one.
use Rattle.std.proofs.Common.{◌≡◌, ◌∷◌, ◌++◌, ◌+◌, ◌∙◌, ℕ, List, [], ap, arith, drop, subst, sym}
use Rattle.plan_next.specs.Starts.{is_start, starts}
use Rattle.plan_next.specs.StartsLaws.{passing-least}
use Rattle.plan_sets.specs.Limits.{end_second}
use Rattle.agenda_table.proofs.YearLemmas.{both_in_years, single}
use Rattle.agenda_table.specs.Dates.{AreInYears}
use Rattle.agenda_commands.proofs.StartLemmas.{listed_more}
use Rattle.agenda_commands.proofs.next.next_starts.Goals as goal

pub loop-listed-preserved : goal.loop-listed-preserved
loop-listed-preserved c =
    let all = starts c.args.rule.now (c.args.after + 1) end_second in
    let n = c.in-Some.start in
    let so_far = c.loop-listed.found.items in
    let next : drop c.loop-listed._listed all ≡ n ∷ starts c.args.rule.now (n + 1) end_second =
    sym c.loop-listed.invariant.1
    ∙ passing-least (is_start c.args.rule.now) (c.loop-listed.latest + 1) end_second n c.in-Some.ensures.least in
    let (more, rest, many) = listed_more all (starts c.args.rule.now (n + 1) end_second) c.loop-listed._listed n next in
    let found = c.in_ok-push.ensures.items in (
      found ∙ ap (λ (xs : List ℕ). xs ++ n ∷ []) c.loop-listed.invariant.0 ∙ more,
      rest,
      many,
      subst AreInYears (sym found) (both_in_years so_far (n ∷ []) c.loop-listed.invariant.3
          (single n (omega (arith, c.in-Some.ensures.least.1)))),
    )
