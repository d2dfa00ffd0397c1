-- The hint of usage errors.
-- For `hint_between`: the place where std finds a text is the place where `cut_at` cuts it. Std says that the text is at no earlier
-- place, or at none; the walk goes by `cut_more` of plan_texts. For `read_words`: errors of arguments other than a machine's.
use Rattle.std.proofs.Common.{◌≡◌, ◌+◌, ◌<◌, ◌≤◌, ◌∙◌, ℕ, zero, suc, false, nat_eq, List, [], Option, Some, None, Result, Ok, Err, length, take, drop, refl, ap, sym, arith, inl, inr, length-append, length-drop}
use Rattle.std.proofs.lemmas.List.{drop-drop}
use Rattle.std.proofs.lemmas.Bool.{cases_Bool}
use Rattle.std.proofs.lemmas.Bool.Decides.{Decides-eqb}
use Rattle.std.proofs.lemmas.Slice.Eq.{starts_is}
use Rattle.std.specs.Prelude.{IfErr}
use Rattle.std.specs.List.{starts_with}
use Rattle.std.specs.Str.Pattern.{FindsText, LacksTextAt}
use Rattle.plan_texts.specs.Text.{after_text, cut_at}
use Rattle.plan_texts.proofs.TextLemmas.{cut_all, cut_found, cut_more}
use Rattle.agenda_arguments.specs.declared.ask.Ask.{Ask}
use Rattle.agenda_arguments.specs.declared.ask.UsageFault.{UsageFault}
use Rattle.agenda_arguments.specs.declared.ask.UsageFault.TheVariants.{Help, NoMemory, Usage}
use Rattle.agenda_arguments.specs.Arguments.{HasHint}

lacks : (mark text : List ℕ) (at : ℕ) → LacksTextAt mark text at → starts_with nat_eq (drop at text) mark ≡ false
lacks mark text at none = elim (cases_Bool (starts_with nat_eq (drop at text) mark)) [
  | inl is ↦ absurd (none _ ((starts_is Decides-eqb (drop at text) mark _ refl).0 is))
  | inr is ↦ is
]

nothing_before : (cut : Option (List ℕ × List ℕ)) → cut ≡ after_text [] cut
nothing_before None = refl
nothing_before (Some parts) = refl

-- the text is cut after the places that were passed
passed :
    (mark text : List ℕ) (at : ℕ) → at ≤ length text → ((place : ℕ) → place < at → LacksTextAt mark text place) →
    cut_at mark text ≡ after_text (take at text) (cut_at mark (drop at text))
passed mark text zero inside none = nothing_before (cut_at mark text)
passed mark text (suc n) inside none =
    let next : n + 1 ≡ suc n = omega arith in
    let so_far = cut_more mark text n (omega arith) (lacks mark text n (none n (omega arith)))
    (passed mark text n (omega arith) (λ place earlier. none place (omega arith))) in
    rw next at so_far

-- the text is cut where the mark is found first
pub cut_first :
    (mark text : List ℕ) (at end : ℕ) → 0 < length mark → FindsText mark text (Some (at, end)) →
    cut_at mark text ≡ Some (take at text, drop end text)
cut_first mark text at end some found =
    let split = found.1.split in
    let inside : at < length text = omega (arith, length-drop at text, ap length split, length-append mark (drop end text)) in
    let here = (starts_is Decides-eqb (drop at text) mark _ refl).1 (drop end text) split in
    cut_found mark text at inside here (passed mark text at (omega arith) found.0)
    ∙ ap (λ rest. Some (take at text, rest)) (drop-drop (length mark) at text ∙ ap (λ n. drop n text) (sym found.1.ends))

-- the text isn't cut if the mark is found nowhere
pub cut_nowhere : (mark text : List ℕ) → FindsText mark text None → cut_at mark text ≡ None
cut_nowhere mark text none =
    cut_all mark text (length text) (omega arith) (passed mark text (length text) (omega arith) (λ place earlier. none place (omega arith)))

-- without options for a time, each error has its hint
pub no_hint : (result : Result Ask UsageFault) → IfErr result (HasHint None)
no_hint (Ok ask) = tt
no_hint (Err NoMemory) = tt
no_hint (Err (Usage text)) = (text, refl)
no_hint (Err (Help text)) = tt
