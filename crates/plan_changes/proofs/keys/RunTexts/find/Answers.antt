use Rattle.std.proofs.Common.{ap, sym, ◌∙◌, Some, slice_get, map}
use Rattle.std.proofs.lemmas.Slice.Eq.{bytes_eq-Decides}
use Rattle.plan_changes.proofs.TextLemmas.{stay_inserted, text_at}
use Rattle.plan_changes.proofs.keys.RunTexts.find.Goals as goal

pub returns-clause-number : goal.returns-clause-number
returns-clause-number c =
    let (key, at, same) = c.in_ok-number.ensures.stored in
    text_at (λ text. text.now) c.insert_full.new.self.keys c.in_ok-number.number key at
    ∙ ap Some (sym ((bytes_eq-Decides c.args.text.now key.now).0 same))

pub returns-clause-kept : goal.returns-clause-kept
returns-clause-kept c = λ number text is.
    ap (λ keys. slice_get (map (λ text. text.now) keys) number) c.in_ok-number.ensures.keys
    ∙ stay_inserted (λ text. text.now) _ c.self.inside.texts.keys _ number text
    (ap (λ texts. slice_get texts number) c.self.view_is ∙ is)
