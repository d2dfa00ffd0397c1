use Rattle.std.proofs.Common.{◌∙◌, [], ◌∷◌, ◌++◌, ℕ, List, ap}
use Rattle.std.specs.List.{flat_map}
use Rattle.agenda_table.specs.Keys.{keys_in}
use Rattle.agenda_table.proofs.YearLemmas.{both_in_years, single}
use Rattle.agenda_table.proofs.dates.dates_of_starts.Goals as goal

pub returns : goal.returns
returns c =
    let keys = keys_in c.args.clock.now in
    let after = c.args.after in
    let starts = c.args.starts.now in
    c.in_ok-dates.ensures (after ∷ starts) (both_in_years (after ∷ []) starts (single after c.requires.after) c.requires.starts)
    (c.in_ok-push_times.ensures ∙ ap (λ (items : List ℕ). items ++ flat_map keys starts) c.in_ok-push_time.ensures
    ∙ ap (λ (items : List ℕ). (items ++ keys after) ++ flat_map keys starts) c.new-keys.ensures.items)
