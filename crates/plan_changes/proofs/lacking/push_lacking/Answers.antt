use Rattle.std.proofs.Common.{◌≡◌, ◌++◌, ◌+◌, ◌<◌, ◌≤◌, Some, false, length, not, arith, ap, sym, subst, ◌∙◌, append-nil, Vec, Global}
use Rattle.std.specs.Prelude.{slice_get}
use Rattle.std.proofs.lemmas.List.{length-replicate, length-set}
use Rattle.std.proofs.lemmas.Option.{get_or_from_slice_get}
use Rattle.plan_changes.specs.declared.change.Change.{Change}
use Rattle.plan_changes.specs.Counts.{no_count}
use Rattle.plan_changes.proofs.CompareLemmas.{appended_more, change_if, changes_before}
use Rattle.plan_changes.proofs.KeyLemmas.{IsCounted, added_more, from_on, key_in, lacking_by_keys, left_few, low_before, no_key, none_counted, one_key, paired_by_keys, paired_more, pushed_if, pushed_none, still_as_many, taken_more}
use Rattle.plan_changes.proofs.lacking.push_lacking.Goals as goal
use Rattle.plan_changes.proofs.lacking.push_lacking.Goals.{then-loop-at-test+else-at-key, else-loop-at-test, then-not-take+in_ok-push, else-not-take}

pub loop-place-init : goal.loop-place-init
loop-place-init g c = record {
  counted = (
    0,
    λ i from before. omega arith,
    none_counted (g.O.Keys.keys c.args.others.now) (g.K.Keys.keys c.args.keys.now) c.args.texts c.in_ok-counts.counts.counts.items c.in_ok-counts.ensures,
  );
  texts = ap length c.in_ok-counts.ensures ∙ length-replicate c.args.texts no_count;
  changes = λ all lines other_lines once are are_others. sym (append-nil c.args.changes.now.items);
}

pub loop-place-preserved-then-is_same : goal.loop-place-preserved-then-is_same
loop-place-preserved-then-is_same g c =
    let others = g.O.Keys.keys c.args.others.now in
    let keys = g.K.Keys.keys c.args.keys.now in
    let at = c.loop-place.at in
    let place = c.loop-place.place in
    let key = c.at-key.result in
    let (low, le, counted) = c.loop-place.invariant.counted in
    let is = c.at-key.ensures in
    let also : slice_get others at ≡ Some key = c.at.ensures ∙ ap Some (c.is_same.ensures c.if-is_same.true) in
    record {
      counted = (
        key.second,
        λ i from before. from_on keys place key c.requires.usable.ordered is i (omega arith) before,
        paired_more others keys at place low c.loop-place.counts.counts.items key c.requires.others_usable.ordered
            c.requires.usable.ordered also is counted,
      );
      texts = c.loop-place.invariant.texts;
      changes = λ all lines other_lines once are are_others.
          let (line, own, keyed) = are.are place key c.at-key.ensures in
          let answer = paired_by_keys all lines other_lines keys others at place low c.loop-place.counts.counts.items key line once are
          are_others keyed also is counted in
          appended_more c.args.kind other_lines lines place line c.args.changes.now.items c.loop-place.changes.items c.loop-place.changes.items
          false (sym own) (c.loop-place.invariant.changes all lines other_lines once are are_others) answer (sym (append-nil c.loop-place.changes.items));
    }

pub loop-at-init : goal.loop-at-init
loop-at-init g c =
    let keys = g.K.Keys.keys c.args.keys.now in
    let key = c.at-key.result in
    let (low, le, counted) = c.loop-place.invariant.counted in
    let here = get_or_from_slice_get keys c.loop-place.place key no_key c.at-key.ensures in
    record {
      counted = (
        low,
        subst (λ k. low ≤ k.second) here (le c.loop-place.place (omega arith) (omega (arith, c.loop-place-test.true, c.len-place-end.ensures))),
        counted,
      );
      texts = c.loop-place.invariant.texts;
    }

pub add-requires-clause-within : goal.add-requires-clause-within
add-requires-clause-within g c =
    let other = c.at-in-loop-at-2.result in
    let below = c.requires.others_usable.below c.loop-at.at other c.at-in-loop-at-2.ensures in
    omega (arith, below, c.loop-at.invariant.texts)

pub add-requires-clause-room : goal.add-requires-clause-room
add-requires-clause-room g c =
    let others = g.O.Keys.keys c.args.others.now in
    let keys = g.K.Keys.keys c.args.keys.now in
    let at = c.loop-at.at in
    let place = c.loop-place.place in
    let counts = c.loop-at.counts.counts.items in
    let other = c.at-in-loop-at-2.result in
    let (low, le, counted) = c.loop-at.invariant.counted in
    let from = low_before others keys at place low counts other c.at-in-loop-at-2.ensures counted in
    omega (arith, left_few others keys at place low counts other from counted, c.loop-at-test.true)

pub loop-at-preserved : goal.loop-at-preserved
loop-at-preserved g c =
    let others = g.O.Keys.keys c.args.others.now in
    let keys = g.K.Keys.keys c.args.keys.now in
    let at = c.loop-at.at in
    let place = c.loop-place.place in
    let counts = c.loop-at.counts.counts.items in
    let other = c.at-in-loop-at-2.result in
    let is = c.at-in-loop-at-2.ensures in
    let (low, le, counted) = c.loop-at.invariant.counted in
    let below = c.requires.others_usable.below at other is in
    let same = one_key others at c.at-in-loop-at.result other c.at-in-loop-at.ensures is in
    let next = added_more others keys at place low counts other c.requires.others_usable.ordered is
    (omega (arith, below, c.loop-at.invariant.texts)) counted in
    record {
      counted = (
        other.second,
        subst (λ o. o.second ≤ c.at-key.result.second) same c.if-at-key.true,
        subst (IsCounted others keys (at + 1) place other.second) (sym c.add.ensures) next,
      );
      texts = ap length c.add.ensures ∙ length-set counts other.runs _ ∙ c.loop-at.invariant.texts;
    }

pub take-requires : goal.take-requires
take-requires g c =
    let below = c.requires.usable.below c.loop-place.place c.at-key.result c.at-key.ensures in
    omega (arith, below, c.loop-at.invariant.texts)

pub loop-place-preserved : goal.loop-place-preserved
loop-place-preserved g c =
    let others = g.O.Keys.keys c.args.others.now in
    let keys = g.K.Keys.keys c.args.keys.now in
    let at = c.loop-at.at in
    let place = c.loop-place.place in
    let key = c.at-key.result in
    let (low, le, counted) = c.loop-at.invariant.counted in
    let is = c.at-key.ensures in
    let below = c.requires.usable.below place key is in
    let within : key.runs < length c.loop-at.counts.counts.items = omega (arith, below, c.loop-at.invariant.texts) in
    let passed : at < length others → key.second < (key_in others at).second = elim c.loop-at-test.branch [
      | then-loop-at-test+else-at-key w ↦ λ before.
          let here = get_or_from_slice_get others at w.at-in-loop-at.result no_key w.at-in-loop-at.ensures in
          subst (λ o. key.second < o.second) (sym here) (omega (arith, w.if-at-key.false))
      | else-loop-at-test w ↦ λ before. absurd (omega (arith, before, w.loop-at-test.false, c.len-in-loop-at.ensures))
    ] in
    let next = taken_more others keys at place low c.loop-at.counts.counts.items key c.take.result le c.requires.others_usable.ordered
    c.requires.usable.ordered passed is within c.take.ensures.taken counted in
    record {
      counted = (
        key.second,
        λ i from before. from_on keys place key c.requires.usable.ordered is i (omega arith) before,
        subst (IsCounted others keys at (place + 1) key.second) (sym c.take.ensures.counts) next,
      );
      texts = ap length c.take.ensures.counts ∙ still_as_many c.take.result key c.loop-at.counts.counts.items ∙ c.loop-at.invariant.texts;
      changes = λ all lines other_lines once are are_others.
          let (line, own, keyed) = are.are place key c.at-key.ensures in
          let answer = lacking_by_keys all lines other_lines keys others at place low c.loop-at.counts.counts.items key line c.take.result
          once are are_others keyed le c.requires.others_usable.ordered passed is c.take.ensures.taken counted in
          let pushed : c.if-not-take.changes.items ≡ c.loop-place.changes.items ++ change_if (not c.take.result) c.args.kind place line =
          elim c.if-not-take.branch [
            | then-not-take+in_ok-push w ↦
                pushed_if c.take.result c.args.kind place key.second line c.loop-place.changes.items c.if-not-take.changes.items
                w.if-not-take.true keyed.0 (ap (λ (v : Vec Change Global). v.items) w.changes-is ∙ w.in_ok-push.ensures.items)
            | else-not-take w ↦
                pushed_none c.take.result c.args.kind place line c.loop-place.changes.items c.if-not-take.changes.items
                w.if-not-take.false (ap (λ (v : Vec Change Global). v.items) w.changes-is)
          ] in
          appended_more c.args.kind other_lines lines place line c.args.changes.now.items c.loop-place.changes.items c.if-not-take.changes.items
          (not c.take.result) (sym own) (c.loop-place.invariant.changes all lines other_lines once are are_others) answer pushed;
    }

pub returns : goal.returns
returns g c = λ all lines other_lines once are are_others.
    let last : c.loop-place.place ≡ length lines = omega (arith, are.many, c.len-place-end.ensures) in
    c.loop-place.invariant.changes all lines other_lines once are are_others
    ∙ ap (λ n. c.args.changes.now.items ++ changes_before c.args.kind other_lines lines n) last
