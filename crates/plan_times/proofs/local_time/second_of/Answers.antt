use Rattle.std.proofs.Common.{ℕ, ◌-◌, ◌<◌, Option, subst, sym, arith}
use Rattle.plan_times.specs.LocalTimes.{IsPicked, Shows, Skips}
use Rattle.plan_times.proofs.PickLemmas.{goes_on, pick_more, shows_only, skips_only}
use Rattle.plan_times.proofs.local_time.second_of.Goals as goal

pub loop-from-preserved : goal.loop-from-preserved
loop-from-preserved c =
    let clock = c.args.clock.now in
    let local = c.args.local in
    let latest = c.args.latest in
    let held = c.loop-from.invariant in
    let from = c.loop-from.from in
    let upto = c.stretch-stretch.result.upto in
    let start = c.start-start.result in
    let some : from < upto = c.stretch-stretch.ensures.from in
    let goes = goes_on clock start from upto c.stretch-stretch.result.row some c.stretch-stretch.ensures.row
    c.stretch-stretch.ensures.same c.start-start.ensures.exact in
    let shows = shows_only clock local start from upto c.shown_in.result goes c.shown_in.ensures.some c.shown_in.ensures.none in
    let skips = skips_only clock local start from upto c.loop-from.before c.skipped_at.result goes held.before
    c.skipped_at.ensures.some c.skipped_at.ensures.none in
    record {
      inside = c.stretch-stretch.ensures.to;
      shown = subst (λ (o : Option ℕ). IsPicked latest (Shows clock local) upto o) (sym c.picked-shown.ensures)
          (pick_more latest (Shows clock local) from upto c.loop-from.shown c.shown_in.result (omega arith) held.shown shows);
      skipped = subst (λ (o : Option ℕ). IsPicked latest (Skips clock local) upto o) (sym c.picked-skipped.ensures)
          (pick_more latest (Skips clock local) from upto c.loop-from.skipped c.skipped_at.result (omega arith) held.skipped skips);
      before = record {
        none = λ zero. absurd (omega arith);
        some = λ _. sym (goes.same (upto - 1) (omega arith) (omega arith));
      };
    }
