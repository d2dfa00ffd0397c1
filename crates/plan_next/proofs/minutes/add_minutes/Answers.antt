-- A step of the loop: for the start's minute the next one is kept (`next_minute`), and the rule starts next then.
use Rattle.std.proofs.Common.{◌≡◌, ◌+◌, ◌-◌, ◌*◌, ◌<◌, arith, ap}
use Rattle.std.proofs.lemmas.List.{length_push}
use Rattle.std.specs.Prelude.{slice_index}
use Rattle.plan_match.specs.declared.rule.Rule.TheVariants as rule
use Rattle.plan_next.proofs.PieceLemmas.{found_more}
use Rattle.plan_next.proofs.PlainLemmas.{next_minute, IsLeastIn-next_minute}
use Rattle.plan_next.proofs.minutes.add_minutes.Goals as goal

pub overflow_sub-later : goal.overflow_sub-later
overflow_sub-later c =
    let so_far = c.loop.invariant in
    let next = next_minute c.args.rule c.args.kept.now c.args.start c.args.upto c.args.part c.loop.last c.loop.minute c.requires.years
    c.requires.plain c.requires.kept so_far.from so_far.before so_far.is so_far.minute in
    let from = next.from in
    omega arith

pub overflow_mul-later : goal.overflow_mul-later
overflow_mul-later c =
    let so_far = c.loop.invariant in
    let next = next_minute c.args.rule c.args.kept.now c.args.start c.args.upto c.args.part c.loop.last c.loop.minute c.requires.years
    c.requires.plain c.requires.kept so_far.from so_far.before so_far.is so_far.minute in
    let to = next.to in
    let unit : c.from-in-loop.result ≡ 60 = omega (arith, c.from-in-loop.ensures) in
    rw unit (omega arith)

pub overflow_add-later : goal.overflow_add-later
overflow_add-later c =
    let so_far = c.loop.invariant in
    let next = next_minute c.args.rule c.args.kept.now c.args.start c.args.upto c.args.part c.loop.last c.loop.minute c.requires.years
    c.requires.plain c.requires.kept so_far.from so_far.before so_far.is so_far.minute in
    let to = next.to in
    let unit : c.from-in-loop.result ≡ 60 = omega (arith, c.from-in-loop.ensures) in
    let years = c.requires.years in
    let before = so_far.before in
    let within = c.requires.plain.within in
    rw unit (omega arith)

pub loop-preserved : goal.loop-preserved
loop-preserved c =
    let so_far = c.loop.invariant in
    let before = so_far.before in
    let within = c.requires.plain.within in
    let started = so_far.from in
    let minute = so_far.minute in
    let many = so_far.many in
    let next = slice_index c.args.kept.now c.loop.minute in
    let first = next_minute c.args.rule c.args.kept.now c.args.start c.args.upto c.args.part c.loop.last c.loop.minute c.requires.years
    c.requires.plain c.requires.kept so_far.from so_far.before so_far.is so_far.minute in
    let from = first.from in
    let to = first.to in
    let unit : c.from-in-loop.result ≡ 60 = omega (arith, c.from-in-loop.ensures) in
    let unit_too : c.from-in-loop-2.result ≡ 60 = omega (arith, c.from-in-loop-2.ensures) in
    let room : next < 60 = omega (arith, c.if-next-from.false) in
    let later = c.loop.last + (next - c.loop.minute) * c.from-in-loop.result in
    let is : later ≡ c.loop.last + (next - c.loop.minute) * 60 = ap (λ n. c.loop.last + (next - c.loop.minute) * n) unit in
    let lower = c.if-later-part.false in
    let least = IsLeastIn-next_minute c.args.rule c.args.start c.args.upto c.args.part c.loop.last c.loop.minute next later
    c.requires.years c.requires.plain so_far.from so_far.before so_far.is so_far.minute first room is lower in
    record {
      from = omega arith;
      before = lower;
      is = least.2;
      minute = omega arith;
      many = rw c.in_ok-push.ensures.items (omega (arith, length_push c.loop.found.items later));
      found = λ since all. found_more (rule.Cron c.args.rule.now) since c.args.upto c.args.most later (c.loop.last + 1) c.loop.found.items
          c.push.new.self.items (so_far.found since all) least (omega arith) c.in_ok-push.ensures.items;
    }
