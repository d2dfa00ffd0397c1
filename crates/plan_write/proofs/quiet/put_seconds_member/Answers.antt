use Rattle.std.proofs.Common.{refl}
use Rattle.plan_streams.proofs.StreamLemmas.{takes_both}
use Rattle.plan_write.specs.Quiet.{seconds_member}
use Rattle.plan_write.proofs.quiet.put_seconds_member.Goals as goal

pub returns : goal.returns
returns g c =
    takes_both g.S.Stream.holds g.S.Stream.takes_all c.args.lines.now c.put_both.new.self c.put.new.self _ _
    (seconds_member c.args.seconds) c.put_both.ensures c.put.ensures (rw (c.as_bytes.ensures.value, c.format.ensures.text) refl)
