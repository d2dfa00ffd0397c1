use Rattle.std.proofs.Common.{◌≡◌, ℕ, List, sym, subst, ◌∙◌}
use Rattle.std.proofs.lemmas.Iterator.{YieldsList-from_chars}
use Rattle.std.proofs.lemmas.Iterator.Consumers.{YieldsList-end}
use Rattle.std.proofs.lemmas.List.{map-id}
use Rattle.std.specs.List.{flat_map}
use Rattle.std.specs.Str.{chars}
use Rattle.plan_streams.specs.Writer.{Takes}
use Rattle.plan_write.specs.Shown.{shown, shown_char}
use Rattle.plan_write.proofs.shown.put_shown.Goals as goal

pub returns : goal.returns
unfolding shown
returns g c =
    let text = c.args.text.now in
    let t = YieldsList-end (YieldsList-from_chars text c.utf8.text cc) c.loop-c.yielded _ c.loop-c.yielded_by _ _ c.in-None.is
    c.next.ensures.steps in
    let all : c.loop-c.yielded ≡ chars text = sym (map-id c.loop-c.yielded) ∙ t.0 in
    subst (λ (cs : List ℕ). Takes g.S.Stream.holds g.S.Stream.takes_all c.args.lines.now c.loop-c.lines (flat_map shown_char cs)) all
    c.loop-c.invariant
