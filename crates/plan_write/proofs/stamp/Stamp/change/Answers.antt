-- In the same minute only the digits of the second are replaced, and on the same day those of the time of day.
use Rattle.std.proofs.Common.{◌≡◌, ◌+◌, ◌*◌, ◌/◌, ap, sym, arith, ◌∙◌}
use Rattle.plan_sets.specs.Limits.{seconds_a_day}
use Rattle.plan_write.proofs.StampLemmas.{other_second, other_time}
use Rattle.plan_write.proofs.stamp.Stamp.change.Goals as goal

pub invariant_of-self : goal.invariant_of-self
invariant_of-self c =
    let (years, minute, midnight, text) = c.self.invariant in
    let (here, before) = c.in-Some.ensures.within in
    let place : c.self.inside.second / 60 * 60 + c.in-Some.seconds ≡ c.args.second = ap (λ n. n + c.in-Some.seconds) (sym minute)
    ∙ here in (
      c.requires,
      omega (arith, minute, here, before),
      omega (arith, minute, midnight, here, before),
      rw (c.copy_from_slice.ensures.after, c.digits.ensures)
          (other_second c.self.inside.second c.args.second c.in-Some.seconds c.self.inside.text text place before),
    )

pub invariant_of-self-in-Some-place_in : goal.invariant_of-self-in-Some-place_in
invariant_of-self-in-Some-place_in c =
    let (years, minute, midnight, text) = c.self.invariant in
    let (here, before) = c.in-Some-place_in.ensures.within in
    let place : c.self.inside.second / seconds_a_day * seconds_a_day + c.in-Some-place_in.time ≡ c.args.second =
    ap (λ n. n + c.in-Some-place_in.time) (sym midnight) ∙ here in (
      c.requires,
      omega (arith, midnight, here, before),
      omega (arith, midnight, here, before),
      rw (
        c.copy_from_slice-in-Some-place_in-3.ensures.after,
        c.copy_from_slice-in-Some-place_in-2.ensures.after,
        c.copy_from_slice-in-Some-place_in.ensures.after,
        c.digits-in-Some-place_in.ensures,
        c.digits-in-Some-place_in-2.ensures,
        c.digits-in-Some-place_in-3.ensures,
      )
          (other_time c.self.inside.second c.args.second c.in-Some-place_in.time c.self.inside.text text place before),
    )
