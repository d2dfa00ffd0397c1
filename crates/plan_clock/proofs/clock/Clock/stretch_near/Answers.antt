use Rattle.std.proofs.Common.{◌≡◌, ℕ, ◌<◌, ◌≤◌, length, get_or, min, List, sym, ap, subst, ◌∙◌, arith, inl, inr}
use Rattle.plan_clock.specs.declared.row.Change.{Change}
use Rattle.plan_clock.specs.Rows.{no_change, row_after, row_at, HavePassed}
use Rattle.std.proofs.lemmas.Bool.Decides.{leb_tells}
use Rattle.plan_clock.proofs.RowLemmas.{row_at-passed, HavePassed-later, begins_at, bounded_at}
use Rattle.plan_clock.proofs.clock.Clock.stretch_near.Goals as goal
use Rattle.plan_clock.proofs.clock.Clock.stretch_near.Goals.{After-end_after}

passed : (c : After-end_after) → HavePassed c.args.self.now c.args.second c.passed_near-passed.result
passed c = subst (λ (changes : List Change). HavePassed changes c.args.second c.passed_near-passed.result) c.changes-changes.ensures.value
    c.passed_near-passed.ensures

row : (c : After-end_after) → c.row_after.result ≡ row_after c.args.self.now c.passed_near-passed.result
row c = c.row_after.ensures ∙ ap (λ (changes : List Change). row_after changes c.passed_near-passed.result) c.changes-changes.ensures.value

pub returns-clause-row : goal.returns-clause-row
returns-clause-row c = row c ∙ sym (row_at-passed c.args.self.now c.args.second c.passed_near-passed.result (passed c))

pub returns-clause-same : goal.returns-clause-same
returns-clause-same c = λ n from to.
    let have = passed c in
    let next = subst (λ (changes : List Change).
    c.passed_near-passed.result < length changes →
    c.end_after.result ≡ min (get_or changes c.passed_near-passed.result no_change).second c.args.end)
    c.changes-changes.ensures.value c.end_after.ensures.next in
    let later = HavePassed-later c.args.self.now c.args.second n c.passed_near-passed.result have from
    (λ more. (let is = next more in omega arith)) in
    row_at-passed c.args.self.now n c.passed_near-passed.result later
    ∙ sym (row_at-passed c.args.self.now c.args.second c.passed_near-passed.result have)

pub returns-clause-bounded : goal.returns-clause-bounded
returns-clause-bounded c = λ n. bounded_at c.args.self.now n c.changes-changes.ensures.good

pub returns-clause-whole : goal.returns-clause-whole
returns-clause-whole c = λ before.
    let passed = c.passed_near-passed.result in
    let next = subst (λ (changes : List Change).
    passed < length changes → c.end_after.result ≡ min (get_or changes passed no_change).second c.args.end)
    c.changes-changes.ensures.value c.end_after.ensures.next in
    let last = subst (λ (changes : List Change). length changes ≤ passed → c.end_after.result ≡ c.args.end)
    c.changes-changes.ensures.value c.end_after.ensures.last in
    elim (leb_tells (length c.args.self.now) passed) [
      | inl none ↦ let is = last none.1 in omega arith
      | inr some ↦
          let is = next some.1 in
          let at : (get_or c.args.self.now passed no_change).second ≡ c.end_after.result = omega arith in
          let begins = begins_at c.args.self.now passed c.changes-changes.ensures.good some.1 in
          subst (λ (second : ℕ). (row_at c.args.self.now second).second ≡ second) at begins
    ]
