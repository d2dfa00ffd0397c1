-- The entries whose jobs have another name are left, and the keys of these are their names.
use Rattle.std.proofs.Common.{◌≡◌, ap, arith, rules, subst, sym, ◌∙◌}
use Rattle.std.specs.List.{filter}
use Rattle.std.specs.Map.{values_of}
use Rattle.indexmap.proofs.CallerLemmas.{filter-RetainsPairs}
use Rattle.plan_rules.specs.Jobs.{is_other, without}
use Rattle.plan_rules.proofs.JobsLemmas.{KeysAreNames, KeysAreNames-filter, values_of-filter}
use Rattle.plan_rules.proofs.jobs.Jobs.without.Goals as goal

pub invariant_of-jobs : goal.invariant_of-jobs
invariant_of-jobs c =
    let test = is_other c.args.names.now in
    let old = c.jobs.inside.by_name.entries in
    let kept : c.retain.new.self.entries ≡ filter (λ e. test e.1) old =
    filter-RetainsPairs _ _ _ (λ k v b w g call. search rules) _ _ c.retain.ensures.filtered in
    (subst KeysAreNames (sym kept) (KeysAreNames-filter test old c.jobs.invariant.0), omega (arith, c.retain.ensures.bound, c.jobs.invariant.1))

pub returns : goal.returns
returns c =
    let test = is_other c.args.names.now in
    let old = c.jobs.inside.by_name.entries in
    let kept : c.retain.new.self.entries ≡ filter (λ e. test e.1) old =
    filter-RetainsPairs _ _ _ (λ k v b w g call. search rules) _ _ c.retain.ensures.filtered in
    ap values_of kept ∙ values_of-filter test old ∙ ap (without c.args.names.now) c.jobs.view_is
