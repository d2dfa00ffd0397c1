use Rattle.std.proofs.Common.{◌≡◌, ◌∙◌, ◌++◌, ℕ, List, [], ◌∷◌, ap, get_or, refl, sym, take, take_all, append_assoc, append-nil}
use Rattle.std.specs.List.{flat_map}
use Rattle.std.proofs.lemmas.Grind.{flat_map-append}
use Rattle.agenda_table.specs.Dates.{gap_times}
use Rattle.agenda_table.specs.Keys.{keys_in}
use Rattle.agenda_table.proofs.RowLemmas.{pieces_more}
use Rattle.agenda_table.proofs.YearLemmas.{both_in_years, gap_times_in_years}
use Rattle.agenda_table.proofs.dates.dates_of_gaps.Goals as goal

pub loop-from-init : goal.loop-from-init
loop-from-init c =
    let keys = keys_in c.args.clock.now in
    c.in_ok-push_times.ensures ∙ ap (λ (items : List ℕ). items ++ flat_map keys c.args.bounds.now) c.new-keys.ensures.items
    ∙ sym (append-nil (flat_map keys c.args.bounds.now))

-- two times after those so far
two_more : (keys : ℕ → List ℕ) (old : List ℕ) (a b : ℕ) → (old ++ keys a) ++ keys b ≡ old ++ flat_map keys (a ∷ b ∷ [])
two_more keys old a b =
    append_assoc old (keys a) (keys b) ∙ ap (λ (items : List ℕ). old ++ (keys a ++ items)) (sym (append-nil (keys b)))

pub loop-from-preserved : goal.loop-from-preserved
loop-from-preserved c =
    let keys = keys_in c.args.clock.now in
    let gaps = c.as_slice-from-items.result.now in
    let i = c.loop-from.from-index in
    let gap : ℕ × ℕ = get_or gaps i (0, 0) in
    let times = λ (gap : ℕ × ℕ). gap.0 ∷ gap.1 ∷ [] in
    let old : List ℕ = flat_map keys c.args.bounds.now in
    let so_far : List ℕ = gap_times (take i gaps) in
    c.in_ok-push_time-2.ensures ∙ ap (λ (items : List ℕ). items ++ keys gap.1) c.in_ok-push_time.ensures
    ∙ two_more keys c.loop-from.keys.items gap.0 gap.1
    ∙ ap (λ (items : List ℕ). items ++ flat_map keys (times gap)) c.loop-from.invariant
    ∙ append_assoc old (flat_map keys so_far) (flat_map keys (times gap))
    ∙ ap (λ (items : List ℕ). old ++ items) (sym (flat_map-append keys so_far (times gap)))
    ∙ ap (λ (items : List ℕ). old ++ flat_map keys items) (pieces_more times gaps i gap (0, 0) c.loop-from-test.true refl)

pub returns : goal.returns
returns c =
    let keys = keys_in c.args.clock.now in
    let bounds = c.args.bounds.now in
    let gaps = c.as_slice-from-items.result.now in
    let same : gaps ≡ c.args.gaps.now = c.as_slice-from-items.ensures.gaps in
    let times = gap_times c.args.gaps.now in
    c.in_ok-dates.ensures (bounds ++ times)
    (both_in_years bounds times c.requires (gap_times_in_years c.args.gaps.now c.as_slice-from-items.ensures.years))
    (c.loop-from.invariant
    ∙ ap (λ (gaps : List (ℕ × ℕ)). flat_map keys bounds ++ flat_map keys (gap_times gaps))
    (take_all c.loop-from.from-index gaps c.loop-from-test.false ∙ same) ∙ sym (flat_map-append keys bounds times))
