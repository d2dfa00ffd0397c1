use Rattle.std.proofs.Common.{◌≡◌, take, drop}
use Rattle.plan_texts.specs.Text.{cut_at, after_text, StandsNowhereBefore}
use Rattle.plan_texts.proofs.parts.cut.Given as goal

abbrev pub invariant-loop-at : goal.invariant-loop-at
invariant-loop-at l = record {
  so_far : cut_at l.mark l.text ≡ after_text (take l.at l.text) (cut_at l.mark (drop l.at l.text));
  nowhere : StandsNowhereBefore l.mark l.text l.at;
}
