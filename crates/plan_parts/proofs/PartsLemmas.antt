-- The law of origins holds of the text that is read.
use Rattle.std.proofs.Common.{◌≡◌, ℕ, ◌-◌, ◌<◌, Bool, true, false, cond, eqb, List, [], map, codes, Some, None, refl, ap, ◌∙◌, inl, inr}
use Rattle.std.proofs.lemmas.Option.{slice_get-map}
use Rattle.std.specs.List.{slice_get}
use Rattle.std.specs.Option.{option_map}
use Rattle.plan_texts.specs.Lines.{lines}
use Rattle.plan_parts.specs.Files.{UnitFiles, texts_of, unit_text}
use Rattle.plan_parts.specs.Merging.{merged}
use Rattle.plan_parts.specs.Origin.{IsAdded, line_at, line_in, origin_of}
use Rattle.plan_parts.specs.Specifiers.{expanded}
use Rattle.plan_parts.proofs.LinesLemmas.{merged_ended}
use Rattle.plan_parts.proofs.OriginLemmas.{origin_added, origin_same}
use Rattle.plan_parts.proofs.SpecifierLemmas.{expanded_lines, expanded_unmarked}

nth_map :
    (f : List ℕ → List ℕ) (ls : List (List ℕ)) (c : Bool) (k : ℕ) →
    cond c None (slice_get (map f ls) k) ≡ option_map f (cond c None (slice_get ls k))
nth_map f ls true k = refl
nth_map f ls false k = slice_get-map f ls k

-- a line of the text of a unit is that of the merged text, with its specifiers replaced
unit_line :
    (unit : UnitFiles) (n : ℕ) → line_at (unit_text unit) n ≡ option_map (expanded unit.unit) (line_at (merged (texts_of unit.files)) n)
unit_line unit n =
    let text = merged (texts_of unit.files) in
    ap (λ ls. cond (eqb n 0) None (slice_get ls (n - 1))) (expanded_lines unit.unit text (merged_ended (texts_of unit.files)))
    ∙ nth_map (expanded unit.unit) (lines text) (eqb n 0) (n - 1)

pub unit_same :
    (unit : UnitFiles) (n : ℕ) → 0 < (origin_of (texts_of unit.files) n).line →
    line_at (unit_text unit) n
    ≡ option_map (expanded unit.unit) (line_in (texts_of unit.files) (origin_of (texts_of unit.files) n))
unit_same unit n some =
    unit_line unit n ∙ ap (option_map (expanded unit.unit)) (origin_same (texts_of unit.files) n some)

pub unit_added :
    (unit : UnitFiles) (n : ℕ) → 0 < n → (origin_of (texts_of unit.files) n).line ≡ 0 → IsAdded (line_at (unit_text unit) n)
unit_added unit n some whole =
    elim (origin_added (texts_of unit.files) n some whole) as (λ _. IsAdded (line_at (unit_text unit) n)) [
      | inl empty ↦ inl (unit_line unit n ∙ ap (option_map (expanded unit.unit)) empty
          ∙ ap (λ line. Some line) (expanded_unmarked unit.unit [] refl))
      | inr section ↦ inr (unit_line unit n ∙ ap (option_map (expanded unit.unit)) section
          ∙ ap (λ line. Some line) (expanded_unmarked unit.unit (codes "[Unit]") refl))
    ]
