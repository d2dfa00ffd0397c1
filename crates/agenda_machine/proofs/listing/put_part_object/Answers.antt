use Rattle.std.proofs.Common.{◌++◌, codes, refl}
use Rattle.plan_write.proofs.TakesLemmas.{takes_three}
use Rattle.plan_write.specs.Json.{json_string}
use Rattle.agenda_machine.specs.Paths.{below}
use Rattle.agenda_machine.proofs.LineLemmas.{takes_five}
use Rattle.agenda_machine.proofs.listing.put_part_object.Goals as goal

pub returns : goal.returns
returns g c =
    let holds = g.S.Stream.holds in
    let takes_all = g.S.Stream.takes_all in
    let path = json_string (below c.args.root.now c.args.path.now) in
    let rest = codes ",\"path\":" ++ (path ++ codes "}\n") in
    takes_five holds takes_all c.args.lines.now c.put.new.self c.put_string.new.lines c.put-2.new.self c.put_string-2.new.lines
    c.put-4.new.self (codes "{\"kind\":") (json_string c.args.kind.now) (codes ",\"name\":") (json_string c.args.name.now) rest
    c.put.ensures c.put_string.ensures c.put-2.ensures c.put_string-2.ensures
    (takes_three holds takes_all c.put_string-2.new.lines c.put-3.new.self c.put_path_string.new.lines c.put-4.new.self
    (codes ",\"path\":") path (codes "}\n") rest c.put-3.ensures c.put_path_string.ensures c.put-4.ensures refl)
