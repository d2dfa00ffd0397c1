use Rattle.std.proofs.Common.{◌++◌, codes, refl, ap, sym, append_assoc}
use Rattle.plan_streams.proofs.StreamLemmas.{takes_both}
use Rattle.plan_write.specs.Json.{json_bytes}
use Rattle.plan_write.proofs.TakesLemmas.{takes_three}
use Rattle.agenda_findings.specs.Findings.{finding_object, members_before, message_of}
use Rattle.agenda_findings.proofs.findings.put_finding_object.Goals as goal

pub returns : goal.returns
returns g c =
    let holds = g.S.Stream.holds in
    let takes_all = g.S.Stream.takes_all in
    let finding = c.args.finding.now in
    let before = members_before c.args.path.now finding in
    let text = json_bytes (message_of c.args.source finding) in
    takes_three holds takes_all c.args.lines.now c.put_members_before.new.lines c.put.new.self c.put-2.new.self before
    (codes ",\"text\":\"") (text ++ codes "\"}\n") (finding_object c.args.path.now c.args.source finding)
    c.put_members_before.ensures c.put.ensures
    (takes_both holds takes_all c.put.new.self c.put_message_of.new.lines c.put-2.new.self text (codes "\"}\n")
    (text ++ codes "\"}\n") c.put_message_of.ensures c.put-2.ensures refl)
    (ap (λ end. before ++ (codes ",\"text\":\"" ++ end)) (sym (append_assoc text (codes "\"") (codes "}\n"))))
