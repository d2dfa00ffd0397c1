use Rattle.std.proofs.Common.{◌≡◌, subst}
use Rattle.plan_streams.specs.Stream.{Puts}
use Rattle.agenda_codes.specs.Codes.{text_of}
use Rattle.agenda_codes.proofs.write.write_explanation.Goals as goal

pub returns-clause-text : goal.returns-clause-text
returns-clause-text g c =
    let text : c.as_bytes.result.now ≡ text_of c.args.code = cc in
    let put = Puts g.S.Stream.takes_all c.put.result (g.S.Stream.holds c.args.out.now) (g.S.Stream.holds c.put.new.self) in
    subst put text c.put.ensures.text
