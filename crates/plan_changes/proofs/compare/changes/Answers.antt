use Rattle.std.proofs.Common.{◌++◌, List, map, subst, sym, rules, ◌∙◌}
use Rattle.std.specs.Prelude.{IsPermutation}
use Rattle.plan_changes.specs.declared.change.Change.{Change}
use Rattle.plan_changes.specs.declared.change.ChangeKind.TheVariants.{Added, Removed}
use Rattle.plan_changes.specs.Changes.{AreAscending, changes_of}
use Rattle.plan_changes.specs.Keys.{key_of_start}
use Rattle.plan_changes.specs.Lines.{lines_of}
use Rattle.plan_changes.proofs.KeyLemmas.{keys_usable, stay_keys}
use Rattle.plan_changes.proofs.compare.changes.Goals as goal

pub push_lacking-requires-clause-usable : goal.push_lacking-requires-clause-usable
push_lacking-requires-clause-usable c =
    let keys = map key_of_start c.in_ok-before.before.starts.items in
    let stay = stay_keys c.new.new.texts c.new-2.new.texts c.args.before.now.lines keys c.in_ok-now.ensures.stay c.in_ok-before.ensures.keys in
    keys_usable c.new-2.new.texts c.len-count.result c.args.before.now.lines keys c.len-count.ensures.len stay c.in_ok-before.ensures.ascending

pub push_lacking-requires-clause-others_usable : goal.push_lacking-requires-clause-others_usable
push_lacking-requires-clause-others_usable c =
    keys_usable c.new-2.new.texts c.len-count.result (lines_of c.args.jobs.now c.entries.result.now) _ c.len-count.ensures.len
    c.in_ok-now.ensures.keys (subst (λ entries. AreAscending (lines_of c.args.jobs.now entries)) (sym c.entries.ensures.entries) c.requires)

pub push_lacking-requires-2-clause-usable : goal.push_lacking-requires-2-clause-usable
push_lacking-requires-2-clause-usable c =
    keys_usable c.new-2.new.texts c.len-count.result (lines_of c.args.jobs.now c.entries.result.now) _ c.len-count.ensures.len
    c.in_ok-now.ensures.keys (subst (λ entries. AreAscending (lines_of c.args.jobs.now entries)) (sym c.entries.ensures.entries) c.requires)

pub push_lacking-requires-2-clause-others_usable : goal.push_lacking-requires-2-clause-others_usable
push_lacking-requires-2-clause-others_usable c =
    let keys = map key_of_start c.in_ok-before.before.starts.items in
    let stay = stay_keys c.new.new.texts c.new-2.new.texts c.args.before.now.lines keys c.in_ok-now.ensures.stay c.in_ok-before.ensures.keys in
    keys_usable c.new-2.new.texts c.len-count.result c.args.before.now.lines keys c.len-count.ensures.len stay c.in_ok-before.ensures.ascending

pub returns : goal.returns
returns c =
    let lines = c.args.before.now.lines in
    let later = lines_of c.args.jobs.now c.entries.result.now in
    let keys = map key_of_start c.in_ok-before.before.starts.items in
    let before = stay_keys c.new.new.texts c.new-2.new.texts lines keys c.in_ok-now.ensures.stay c.in_ok-before.ensures.keys in
    let now = c.in_ok-now.ensures.keys in
    let removed = c.in_ok-push_lacking.ensures c.new-2.new.texts lines later c.len-count.ensures.once before now in
    let added = c.in_ok-push_lacking-2.ensures c.new-2.new.texts later lines c.len-count.ensures.once now before in
    let pushed = added ∙ (λ i. removed i ++ changes_of Added lines later)
    ∙ (λ i. (c.in_ok-changes.ensures.items i ++ changes_of Removed later lines) ++ changes_of Added lines later)
    ∙ (λ i. changes_of Removed (lines_of c.args.jobs.now (c.entries.ensures.entries i)) lines
    ++ changes_of Added lines (lines_of c.args.jobs.now (c.entries.ensures.entries i))) in (
      subst (λ (all : List Change). IsPermutation all c.sort_unstable.new.self.items) pushed c.sort_unstable.ensures.permutation,
      search rules,
    )
