use Rattle.std.proofs.Common.{◌++◌, codes, refl, subst, sym}
use Rattle.plan_streams.proofs.StreamLemmas.{takes_both}
use Rattle.plan_streams.specs.Writer.{Takes}
use Rattle.plan_write.specs.Shown.{shown}
use Rattle.agenda_machine.proofs.ShownLemmas.{shown_below}
use Rattle.agenda_machine.proofs.paths.put_path.Goals as goal

pub returns : goal.returns
returns g c =
    let holds = g.S.Stream.holds in
    let takes_all = g.S.Stream.takes_all in
    let old = c.args.lines.now in
    let new = c.put_shown-2.new.lines in
    let root = shown c.args.root.now in
    let rest = codes "/" ++ shown c.args.path.now in
    subst (Takes holds takes_all old new) (sym (shown_below c.args.root.now c.args.path.now c.utf8.root))
    (takes_both holds takes_all old c.put_shown.new.lines new root rest (root ++ rest) c.put_shown.ensures
    (takes_both holds takes_all c.put_shown.new.lines c.put.new.self new (codes "/") (shown c.args.path.now) rest c.put.ensures
    c.put_shown-2.ensures refl) refl)
