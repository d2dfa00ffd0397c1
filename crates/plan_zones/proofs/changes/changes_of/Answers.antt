use Rattle.std.proofs.Common.{◌≡◌, ◌<◌, ◌+◌, ◌∙◌, sym, subst, ap, arith, w16, pos, ℕ, to_z}
use Rattle.std.proofs.lemmas.Int.{to_z_pos}
use Rattle.jiff_core.specs.Calendar.{days_in_year}
use Rattle.plan_zones.specs.Changes.{year_start, Covers}
use Rattle.plan_zones.proofs.ChangeLemmas.{Covers-none}
use Rattle.plan_zones.proofs.YearLemmas.{year_at-is, year_start-end, year_start-first, year_start-next, year_start-within}
use Rattle.plan_sets.specs.Limits.{last_year}
use Rattle.plan_zones.proofs.changes.changes_of.Goals as goal
use Rattle.std.proofs.lemmas.Bool.Decides.{nat_tests}

pub loop-year-init : goal.loop-year-init
loop-year-init c = grind (arith, nat_tests, year_start-first, Covers-none)

-- the length of a year
length-of : (year days long : ℕ) → year < 3000 → days ≡ days_in_year (to_z w16 year) → long ≡ days → long ≡ days_in_year (pos year)
length-of year days long h e same = same ∙ e ∙ ap days_in_year (to_z_pos w16 year (omega arith))

-- the year is within the supported years
pub overflow_add-end : goal.overflow_add-end
overflow_add-end c = grind (arith, nat_tests, length-of, year_start-within)

pub add_year-requires-clause-in_years : goal.add_year-requires-clause-in_years
add_year-requires-clause-in_years c = grind (arith, nat_tests, length-of, year_start-within)

pub add_year-requires-clause-year : goal.add_year-requires-clause-year
add_year-requires-clause-year c = λ n from upto.
    let long = length-of c.loop-year.year c.days_in_year.result c.from.result c.loop-year-test.true c.days_in_year.ensures c.from.ensures in
    let begin = c.loop-year.invariant.begin in
    let year = c.loop-year.auto.year in
    let within = year_start-within c.loop-year.year year (omega arith) in
    let next = year_start-next c.loop-year.year year in
    let here = year_at-is c.loop-year.year n year (omega arith) (omega arith) (omega arith) (omega arith) in
    let there = year_at-is c.loop-year.year c.loop-year.start year (omega arith) (omega arith) (omega arith) (omega arith) in
    here ∙ sym there

pub loop-year-preserved : goal.loop-year-preserved
loop-year-preserved c = grind (arith, nat_tests, length-of, year_start-next)

pub returns : goal.returns
returns c =
    let most = c.loop-year.auto.year-end (omega arith) in
    let year : c.loop-year.year ≡ last_year + 1 = omega arith in
    let end = c.loop-year.invariant.begin ∙ ap year_start year ∙ year_start-end in
    subst (Covers c.args.zone.now c.loop-year.changes.items) end c.loop-year.invariant.covered
