use Rattle.std.proofs.Common.{[], ◌∷◌, map, ap, arith, refl, subst, sym, ◌∙◌}
use Rattle.std.proofs.lemmas.List.{map-append}
use Rattle.plan_baseline.specs.Line.{line_of}
use Rattle.plan_changes.specs.Keys.{IsKeyOf, key_of_start}
use Rattle.plan_changes.proofs.CompareLemmas.{not_past}
use Rattle.plan_changes.proofs.KeyLemmas.{one_keyed}
use Rattle.plan_changes.proofs.earlier_keys.EarlierKeys.new.Goals as goal
use Rattle.plan_changes.proofs.earlier_keys.EarlierKeys.new.Goals.{in-Some+in_ok-runs+in_ok-start+in_ok-push, in_default}

pub loop-place-preserved : goal.loop-place-preserved
loop-place-preserved c = elim c.match-get.branch [
  | in-Some+in_ok-runs+in_ok-start+in_ok-push w ↦
      let line = line_of w.in-Some.line in
      let keyed = subst (λ start. IsKeyOf w.number_of.new.self line (key_of_start start)) (sym w.in_ok-start.ensures)
      (refl, w.in_ok-runs.ensures.number) in
      let pushed = ap (map key_of_start) w.in_ok-push.ensures.items
      ∙ map-append key_of_start c.loop-place.starts.items (w.in_ok-start.start ∷ []) in
      rw (w.texts-is, w.starts-is)
      (one_keyed c.args.texts.now c.loop-place.texts w.number_of.new.self c.args.agenda.now.lines c.loop-place.place
      (map key_of_start c.loop-place.starts.items) (map key_of_start w.push.new.self.items) line (key_of_start w.in_ok-start.start)
      w.in-Some.ensures.line keyed w.in_ok-runs.ensures.kept pushed c.loop-place.invariant)
  | in_default w ↦ absurd (not_past c.args.agenda.now.lines c.loop-place.place w.in_default.ensures.line (omega arith))
]
