use Rattle.std.proofs.Common.{[], ◌∷◌, ◌++◌, not, ap, sym, ◌∙◌}
use Rattle.std.specs.List.{list_any}
use Rattle.std.specs.Str.{bytes_eq}
use Rattle.std.specs.Vec.Iter.{into_iter_items}
use Rattle.plan_rules.specs.Names.{with_name}
use Rattle.plan_machine.specs.Machine.{distinct, new_after}
use Rattle.plan_machine.proofs.ToldLemmas.{new_more, said_more}
use Rattle.plan_machine.proofs.machine.distinct.Goals as goal

pub loop-one-preserved : goal.loop-one-preserved
loop-one-preserved c =
    let told = c.loop-one.invariant.0 in
    let one = c.in-Some.one in
    let once = c.loop-one.once.items in
    let before = c.loop-one.yielded in
    let more = into_iter_items c.next.new.self in
    let text = c.as_str.ensures.value ∙ c.in_ok-text.ensures in
    let text_too = c.as_str-in-loop-one.ensures.value ∙ c.in_ok-text.ensures in
    let new = ap not (c.contains-is_new.ensures ∙ ap (λ t. list_any (bytes_eq t) c.loop-one.told) text ∙ told _) in
    let added = c.in_ok-add.ensures.added ∙ ap (with_name c.loop-one.told) text_too in
    let so_far = ap (λ left. once ++ new_after before left) (sym c.in-Some.ensures.steps.0) ∙ c.loop-one.invariant.1 in (
      (λ t. ap (list_any (bytes_eq t)) added ∙ said_more c.loop-one.told before one told t),
      ap (λ kept. kept ++ new_after (before ++ one ∷ []) more) c.in_ok-add_if_new.ensures
          ∙ new_more (not c.contains-is_new.result) once before more (distinct c.args.skipped.items) one new so_far,
    )
