use Rattle.std.proofs.Common.{◌≡◌, ◌∷◌, ◌∙◌, ℕ, List, [], true, false, ap, refl, subst, sym}
use Rattle.std.specs.Prelude.{is_some}
use Rattle.std.proofs.lemmas.Bool.{and_from}
use Rattle.std.proofs.lemmas.Iterator.{YieldsList-from_chars}
use Rattle.std.proofs.lemmas.Iterator.Consumers.{YieldsList-end}
use Rattle.std.proofs.lemmas.List.{map-id}
use Rattle.std.proofs.lemmas.List.Folds.{list_all-append}
use Rattle.std.specs.Str.{chars}
use Rattle.unicode_width.specs.Width.{char_width}
use Rattle.agenda_table.specs.Room.{is_printable}
use Rattle.agenda_table.proofs.room.is_printable.Goals as goal

pub loop-c-preserved : goal.loop-c-preserved
loop-c-preserved c =
    let next = c.in-Some.c in
    let here : is_some (char_width false next) ≡ true = ap is_some (sym c.width.ensures.value) ∙ c.if-is_none.ensures in
    list_all-append (λ (c : ℕ). is_some (char_width false c)) c.loop-c.yielded (next ∷ [])
    ∙ and_from (is_printable c.loop-c.yielded) (is_printable (next ∷ [])) c.loop-c.invariant (and_from _ true here refl)

pub returns : goal.returns
returns c =
    let text = c.args.text.now in
    let t = YieldsList-end (YieldsList-from_chars text c.utf8.text cc) c.loop-c.yielded _ c.loop-c.yielded_by _ _ c.in-None.is
    c.next.ensures.steps in
    let all : c.loop-c.yielded ≡ chars text = sym (map-id c.loop-c.yielded) ∙ t.0 in
    λ is. subst (λ (cs : List ℕ). is_printable cs ≡ true) all c.loop-c.invariant
