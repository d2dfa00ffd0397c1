use Rattle.plan_streams.proofs.StreamLemmas.{puts_rest}
use Rattle.plan_streams.proofs.writer.put_rest.Goals as goal

pub returns-clause-texts : goal.returns-clause-texts
returns-clause-texts g c start text before =
    puts_rest g.S.Stream.takes_all c.args.state c.put.result c.in_ok-state.field-0 start (g.S.Stream.holds c.args.out.now)
    (g.S.Stream.holds c.put.new.self) text c.args.waiting.now c.in_ok-state.was c.put.ensures.text before
