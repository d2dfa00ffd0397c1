use Rattle.std.proofs.Common.{ap, sym, ◌∙◌, Some, slice_get}
use Rattle.std.proofs.lemmas.Slice.Eq.{bytes_eq-Decides}
use Rattle.plan_changes.proofs.TextLemmas.{text_at}
use Rattle.plan_changes.proofs.keys.RunTexts.has_at.Goals as goal

pub returns-in-Some : goal.returns-in-Some
returns-in-Some c = λ is.
    ap (λ texts. slice_get texts c.args.number) (sym c.self.view_is)
    ∙ text_at (λ text. text.now) c.self.inside.texts.keys c.args.number c.in-Some.found.now (sym c.in-Some.ensures.key)
    ∙ ap Some ((bytes_eq-Decides c.in-Some.found.now.now c.args.text.now).0 (sym c.eq.ensures ∙ is))
