-- Each turn adds the text of its number.
use Rattle.std.proofs.Common.{◌≡◌, ◌+◌, ◌-◌, ◌++◌, ap, sym, ◌∙◌, arith, append_assoc}
use Rattle.std.specs.Fmt.{decimal}
use Rattle.std.specs.List.{range_with_len}
use Rattle.std.specs.Prelude.{flat_map}
use Rattle.plan_systemd.specs.MayStop.{later_value}
use Rattle.plan_systemd.proofs.TextLemmas.{flat_map-push}
use Rattle.plan_systemd.proofs.may_stop.values_text.Goals as goal

pub loop-v-preserved : goal.loop-v-preserved
loop-v-preserved c =
    let a = c.args.first + 1 in
    let piece = later_value c.args.first c.args.step in
    let n = c.loop-v.v - a in
    let next : c.loop-v.v + 1 - a ≡ n + 1 = omega arith in
    let here : a + n ≡ c.loop-v.v = omega arith in
    let pushed : flat_map piece (range_with_len a (n + 1)) ≡ flat_map piece (range_with_len a n) ++ piece c.loop-v.v =
    flat_map-push piece a n ∙ ap (λ v. flat_map piece (range_with_len a n) ++ piece v) here in
    c.in_ok-add_later.ensures
    ∙ ap (λ text. text ++ piece c.loop-v.v) c.loop-v.invariant
    ∙ append_assoc (decimal c.args.first) (flat_map piece (range_with_len a n)) (piece c.loop-v.v)
    ∙ ap (λ text. decimal c.args.first ++ text) (sym pushed)
    ∙ ap (λ k. decimal c.args.first ++ flat_map piece (range_with_len a k)) (sym next)

pub returns : goal.returns
returns c =
    let whole : c.loop-v.v - (c.args.first + 1) ≡ c.args.hi - c.args.first = omega arith in
    c.loop-v.invariant
    ∙ ap (λ k. decimal c.args.first ++ flat_map (later_value c.args.first c.args.step) (range_with_len (c.args.first + 1) k)) whole
