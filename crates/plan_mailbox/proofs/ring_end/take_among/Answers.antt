-- For the loop and `some` of `take_among`. An iteration that finds nothing leaves all that is seen as it was
-- (`receiving-same`), and its sender is then one without messages that are known to wait. So a message that is found can
-- be described by the ends before the call: `some` is `IsTakeAmong-from`, rewritten along the invariant's `same`.
use Rattle.std.proofs.Common.{◌≡◌, ◌<◌, ◌≤◌, [], length, set, subst, sym, ap, ◌∙◌, arith, below_more}
use Rattle.plan_mailbox.specs.Ends.{IsTakeAmong, known_at, receiving}
use Rattle.plan_mailbox.proofs.Receives.{IsTakeAmong-from, known-was, receiving-same}
use Rattle.plan_mailbox.proofs.ring_end.take_among.Goals as goal

pub loop-sender-preserved : goal.loop-sender-preserved
loop-sender-preserved g c =
    let ends = c.loop-sender.ends in
    let start = receiving 0 c.args.ends.now.items in
    let was = c.index_mut.result.now in
    let now = c.try_take.new.self in
    let at_it = c.in_default.ensures in
    let within : c.loop-sender.sender < length ends.items = omega (arith, ends.ok, c.loop-sender.invariant.many) in
    let here : known_at start c.loop-sender.sender ≡ [] = ap (λ b. known_at b c.loop-sender.sender)
    (sym c.loop-sender.invariant.same) ∙ known-was 0 ends.items c.loop-sender.sender now was within c.index_mut.ensures.value
    ∙ at_it.was_empty in
    record {
      many = c.loop-sender.invariant.many;
      same = receiving-same 0 ends.items c.loop-sender.sender now was within c.index_mut.ensures.value at_it.ring at_it.untaken
          (at_it.empty ∙ sym at_it.was_empty) at_it.settled ∙ c.loop-sender.invariant.same;
      passed = λ k low high. below_more (λ x. c.args.from ≤ x → known_at start x ≡ []) _
          (λ x below above. c.loop-sender.invariant.passed x above below) (λ _. here) k high low;
    }

pub returns-in-Some-clause-some : goal.returns-in-Some-clause-some
returns-in-Some-clause-some g c =
    let ends = c.loop-sender.ends in
    let sender = c.loop-sender.sender in
    let was = c.index_mut.result.now in
    let now = c.try_take.new.self in
    let same = c.loop-sender.invariant.same in
    let took = c.in-Some.ensures in
    let within : sender < length ends.items = omega (arith, ends.ok, c.loop-sender.invariant.many) in
    subst (λ before. IsTakeAmong c.args.from c.args.upto before sender c.in-Some.message (receiving 0 (set ends.items sender now))) same
    (IsTakeAmong-from 0 ends.items sender now was within c.index_mut.ensures.value took.ring c.args.from c.args.upto
    c.in-Some.message took.settled took.taken took.oldest took.all_known (omega arith) (omega arith)
    (λ k low high. ap (λ b. known_at b k) same ∙ c.loop-sender.invariant.passed k low high))
