use Rattle.std.proofs.Common.{refl, arith}
use Rattle.std.proofs.KnownBytes.{Appends-nil}
use Rattle.plan_streams.proofs.StreamLemmas.{part_written_more}
use Rattle.plan_streams.proofs.stream.write_bytes.Goals as goal

pub loop-rest-init : goal.loop-rest-init
loop-rest-init g c = (0, record { within = omega arith; left = refl; front = Appends-nil (g.W.Write.contents c.args.out.now) })

pub loop-rest-preserved : goal.loop-rest-preserved
loop-rest-preserved g c =
    part_written_more (g.W.Write.contents c.args.out.now) (g.W.Write.contents c.loop-rest.out)
    (g.W.Write.contents c.write.new.self) c.args.bytes.now c.loop-rest.rest.now c.in-Ok.taken
    c.loop-rest.invariant c.in-Ok.ensures.bound c.in-Ok.ensures.bytes
