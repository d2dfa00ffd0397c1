-- For `added` of `Jobs::add`, and for the type's invariant after it. No job has the name, so by the invariant it is no key of the
-- map, and the map puts the new entry last (`insert_entry-job`). The key is the job's name, and the map has one more entry.
-- Before that, where a job has the name (`taken`).
use Rattle.std.proofs.Common.{◌≡◌, ◌+◌, [], ◌∷◌, ◌++◌, length, true, false, is_some, string_bytes, subst, refl, ap, sym, ◌∙◌, true≢false, arith, length-append}
use Rattle.std.proofs.lemmas.List.{map-append, length-map}
use Rattle.std.specs.Map.{values_of}
use Rattle.plan_rules.specs.Jobs.{number_of}
use Rattle.plan_rules.proofs.JobsLemmas.{KeysAreNames, insert_entry-job, KeysAreNames-push}
use Rattle.plan_rules.proofs.jobs.Jobs.add.Goals as goal
use Rattle.plan_rules.proofs.jobs.Jobs.add.Goals.{Then-is_some}

taken : (c : Then-is_some) → is_some (number_of c.args.job.name c.args.self.now) ≡ true
taken c =
    ap (λ name. is_some (number_of name c.args.self.now)) (sym c.name.ensures) ∙ ap is_some (sym c.number_of.ensures)
    ∙ sym c.is_some.ensures ∙ c.if-is_some.true

pub returns-then-is_some-clause-same_name : goal.returns-then-is_some-clause-same_name
returns-then-is_some-clause-same_name c =
    let named = taken (goal.at.returns-then-is_some-clause-same_name c).Then-is_some in (λ is. named, λ has. refl)

pub returns-then-is_some-clause-full : goal.returns-then-is_some-clause-full
returns-then-is_some-clause-full c =
    let named = taken (goal.at.returns-then-is_some-clause-full c).Then-is_some in
    (λ is. absurd cc, λ none. absurd (true≢false (sym named ∙ none.0)))

pub returns-then-is_some-clause-handed_back : goal.returns-then-is_some-clause-handed_back
returns-then-is_some-clause-handed_back c = refl

pub invariant_of-self : goal.invariant_of-self
invariant_of-self c =
    let old = c.self.inside.by_name in
    let absent : is_some (number_of c.args.job.name (values_of old.entries)) ≡ false =
    ap (λ jobs. is_some (number_of c.args.job.name jobs)) c.self.view_is ∙ cc in
    let named : string_bytes c.in-Ok.name ≡ c.args.job.name = c.in-Ok.ensures.ok ∙ c.name-2.ensures in
    let new : c.insert.new.self.entries ≡ old.entries ++ (c.in-Ok.name, c.args.job) ∷ [] =
    c.in-Ok-insert.ensures.entries ∙ insert_entry-job old c.in-Ok.name c.args.job c.self.invariant.0 named absent in (
      subst KeysAreNames (sym new) (KeysAreNames-push old.entries c.in-Ok.name c.args.job c.self.invariant.0 named),
      (let counted : length c.insert.new.self.entries ≡ length old.entries + 1 =
          ap length new ∙ length-append old.entries ((c.in-Ok.name, c.args.job) ∷ []) in
          let held : length (values_of old.entries) ≡ length c.args.self.now = ap length c.self.view_is in
          omega (arith, length-map old.entries (λ entry. entry.1))),
    )

pub returns-in-Ok-insert-clause-added : goal.returns-in-Ok-insert-clause-added
returns-in-Ok-insert-clause-added c =
    let old = c.self.inside.by_name in
    let absent : is_some (number_of c.args.job.name (values_of old.entries)) ≡ false =
    ap (λ jobs. is_some (number_of c.args.job.name jobs)) c.self.view_is ∙ cc in
    let named : string_bytes c.in-Ok.name ≡ c.args.job.name = c.in-Ok.ensures.ok ∙ c.name-2.ensures in
    ap values_of (c.in-Ok-insert.ensures.entries ∙ insert_entry-job old c.in-Ok.name c.args.job c.self.invariant.0 named absent)
    ∙ map-append (λ entry. entry.1) old.entries ((c.in-Ok.name, c.args.job) ∷ [])
    ∙ ap (λ jobs. jobs ++ c.args.job ∷ []) c.self.view_is
