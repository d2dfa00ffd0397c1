use Rattle.plan_streams.proofs.StreamLemmas.{none_waits, puts_rest}
use Rattle.plan_streams.proofs.writer.put_part.Goals as goal

pub returns : goal.returns
returns g c start text before =
    none_waits g.S.Stream.takes_all c.put_part.result start (g.S.Stream.holds c.put_part.new.self) text
    (puts_rest g.S.Stream.takes_all c.args.state c.put_part.result c.in_ok-state.field-0 start (g.S.Stream.holds c.args.out.now)
    (g.S.Stream.holds c.put_part.new.self) text c.args.waiting.now c.in_ok-state.was c.put_part.ensures before)
