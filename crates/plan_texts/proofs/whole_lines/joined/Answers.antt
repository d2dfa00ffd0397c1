use Rattle.std.proofs.Common.{◌+◌, map, ap, sym, ◌∙◌}
use Rattle.plan_texts.specs.Joining.{whole_with}
use Rattle.plan_texts.proofs.WholeLinesLemmas.{rest_from, rest_more}
use Rattle.plan_texts.proofs.whole_lines.joined.Goals as goal

pub loop-place-preserved : goal.loop-place-preserved
loop-place-preserved c =
    c.in_ok-add.ensures (rest_from (c.loop-place.place + 1) (map (λ line. line.now) c.args.lines.now))
    ∙ ap (whole_with c.loop-place.joiner) (sym (rest_more (λ line. line.now) c.args.lines.now c.loop-place.place _ c.loop-place-test.true))
    ∙ c.loop-place.invariant
