use Rattle.std.proofs.Common.{◌≡◌, ◌≤◌, ◌∙◌, sym, subst, ap, arith, to_z, of_z, w32}
use Rattle.jiff_tz.specs.Tzif.{offset_at}
use Rattle.plan_zones.specs.Changes.{added}
use Rattle.plan_zones.proofs.ChangeLemmas.{offset-back, Covers-added}
use Rattle.plan_zones.specs.Changes.{Covers, zone_offset}
use Rattle.plan_zones.proofs.changes.add_year.Goals as goal

pub loop-second-preserved : goal.loop-second-preserved
loop-second-preserved c =
    let z = c.args.zone.now in
    let s = c.loop-second.second in
    let inv = c.loop-second.invariant in
    let from : c.args.start ≤ s = inv.from in
    let later = c.next_change.ensures.later in
    let is : c.to_offset-offset.result.seconds ≡ zone_offset z s =
    ap (λ o. o.seconds) c.to_offset-offset.ensures ∙ ap (λ n. (offset_at z n).seconds) c.instant_of.ensures in
    let o = c.to_offset-offset.result.seconds in
    let within = c.to_offset-offset.result.in_range in
    let back : to_z w32 (of_z w32 o) ≡ o = offset-back o within in
    record {
      from = omega arith;
      upto = omega arith;
      covered = subst (λ l. Covers z l c.min-second.result)
          (sym (c.in_ok-add_change.ensures ∙ ap (λ v. added c.loop-second.changes.items (record { second = s; offset = v })) back))
          (Covers-added z c.loop-second.changes.items s c.min-second.result o inv.covered within is (omega arith)
          (λ n at l. c.next_change.ensures.steady n at (omega arith)
          (omega arith) (c.requires.year n (omega arith) (omega arith) ∙ sym (c.requires.year s from (omega arith)))));
    }
