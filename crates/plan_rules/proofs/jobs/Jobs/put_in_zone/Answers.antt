-- One entry of the map changes: its job keeps its name (`same_names`) and is now in the zone (`first_more`).
use Rattle.std.proofs.Common.{◌≡◌, ℕ, ◌≤◌, Some, string_bytes, map, ap, sym, subst, ◌∙◌, add-one}
use Rattle.std.specs.List.{slice_get}
use Rattle.std.specs.Map.{values_of}
use Rattle.std.specs.Option.{option_copied_mut}
use Rattle.indexmap.proofs.CallerLemmas.{index_map_len-with_value_at, keys-with_value_at}
use Rattle.indexmap.specs.IndexMap.{set_value_at}
use Rattle.plan_rules.specs.Limits.{most_jobs}
use Rattle.plan_rules.specs.Job.{JobParts}
use Rattle.plan_rules.specs.Zone.{first_in, job_in}
use Rattle.plan_rules.proofs.ZoneLemmas.{first_more, name_kept, same_names, where_done}
use Rattle.plan_rules.proofs.jobs.Jobs.put_in_zone.Goals as goal

pub invariant_of-self-2 : goal.invariant_of-self-2
invariant_of-self-2 c =
    let jobs = c.self.inside.by_name in
    let here : slice_get (values_of jobs.entries) c.args.number ≡ Some c.in-Some.job.now =
    sym c.get_index_mut.ensures.value ∙ ap option_copied_mut c.in-Some.is in
    let named : c.put_in_zone.new.self.name ≡ c.in-Some.job.now.name =
    name_kept c.put_in_zone.result c.args.clock.now c.in-Some.job.now c.put_in_zone.new.self c.put_in_zone.ensures.zone
    c.put_in_zone.ensures.unchanged in (
      ap (map string_bytes) (keys-with_value_at jobs c.args.number c.put_in_zone.new.self) ∙ c.self.invariant.0
          ∙ sym (same_names jobs.entries c.args.number c.in-Some.job.now c.put_in_zone.new.self here named),
      subst (λ (n : ℕ). n ≤ most_jobs) (sym (index_map_len-with_value_at jobs c.args.number c.put_in_zone.new.self)) c.self.invariant.1,
    )

pub returns : goal.returns
returns c =
    let jobs = c.self.inside.by_name in
    let here : slice_get (values_of jobs.entries) c.args.number ≡ Some c.in-Some.job.now =
    sym c.get_index_mut.ensures.value ∙ ap option_copied_mut c.in-Some.is in
    where_done c.put_in_zone.result _ _ c.put_in_zone.ensures.zone
    (λ new all so_far. ap (λ (job : JobParts). values_of (set_value_at jobs.entries c.args.number job)) new
    ∙ first_more (job_in c.args.clock.now) jobs.entries all c.args.number c.in-Some.job.now here (c.self.view_is ∙ so_far)
    ∙ ap (λ (n : ℕ). first_in c.args.clock.now n all) (sym (add-one c.args.number)))
