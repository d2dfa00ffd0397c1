-- Each event is checked.
use Rattle.std.proofs.Common.{arith}
use Rattle.plan_systemd.proofs.MergedLemmas.{all_have}
use Rattle.plan_systemd.proofs.merged.have_seconds.Goals as goal

pub returns : goal.returns
returns c = λ same.
    all_have c.args.seconds.now c.args.events.now (λ k event lt is. c.loop-i.invariant k event (omega arith) is)
