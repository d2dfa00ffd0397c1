use Rattle.std.proofs.Common.{◌-◌, ap, length, refl, sym, ◌∙◌, arith}
use Rattle.std.proofs.lemmas.Bool.Decides.{nat_tests}
use Rattle.std.proofs.lemmas.Bool.{ltb-true, lt-ltb}
use Rattle.std.proofs.lemmas.List.{get_or_default}
use Rattle.plan_clock.specs.declared.row.Change.{Change}
use Rattle.plan_clock.specs.Rows.{no_change}
use Rattle.plan_clock.proofs.RowLemmas.{HavePassed-by}
use Rattle.plan_clock.proofs.clock.have_passed.Goals as goal
use Rattle.plan_clock.proofs.clock.have_passed.Goals.{then-count-eq0-via-then-count-eq0, then-count-eq0-via-else-count-eq0+then-count-changes, then-count-eq0-via-else-count-eq0+else-count-changes+then-second-changes}

pub returns-in-Some : goal.returns-in-Some
returns-in-Some c =
    let inside = ltb-true c.args.count (length c.args.changes.now) (sym c.in-Some.ensures.lookup.0) in
    let next = ap (λ (change : Change). change.second)
    (c.in-Some.ensures.lookup.1 ∙ get_or_default c.args.changes.now c.args.count c.in-Some.next.now no_change inside) in (
      λ test. (
        omega arith,
        HavePassed-by c.args.changes.now c.args.second c.args.count c.requires (omega arith) (omega arith) (omega arith)
            (λ lt. (let before = ltb-true c.args.second c.in-Some.next.now.second test in omega arith)),
      ),
      λ given. (let before = given.1.next inside in lt-ltb c.args.second c.in-Some.next.now.second (omega arith)),
    )

pub returns-in-None : goal.returns-in-None
returns-in-None c =
    let none = c.in-None.ensures.lookup.0 in (
      λ test. (
        omega arith,
        HavePassed-by c.args.changes.now c.args.second c.args.count c.requires (omega arith) (omega arith) (omega arith)
            (λ lt. grind (arith, nat_tests)),
      ),
      λ given. refl,
    )

pub returns-then-count-eq0 : goal.returns-then-count-eq0
returns-then-count-eq0 c = (
  λ no. absurd (cc),
  λ given.
      (let some = given.0 in
      let bound = given.1.bound in
      let begun = given.1.begun (c.args.count - 1) (omega arith) in
      elim c.then-count-eq0.branch [
        | then-count-eq0-via-then-count-eq0 w ↦ let none = w.if-count-eq0 in absurd (omega arith)
        | then-count-eq0-via-else-count-eq0+then-count-changes w ↦ let more = w.if-count-changes in absurd (omega arith)
        | then-count-eq0-via-else-count-eq0+else-count-changes+then-second-changes w ↦
            let before = w.if-second-changes in absurd (omega arith)
      ]),
)
