use Rattle.std.proofs.Common.{Bor, List, ℕ, sym, ◌∙◌}
use Rattle.agenda_policy.specs.Reading.{is_all}
use Rattle.agenda_policy.proofs.CommentLemmas.{list_any-map}
use Rattle.agenda_policy.proofs.reading.has_all.Goals as goal

pub returns : goal.returns
returns c =
    let now : Bor (List ℕ) → List ℕ = λ value. value.now in
    c.any_all.ensures ∙ sym (list_any-map is_all now c.args.values.now)
