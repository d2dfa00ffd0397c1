use Rattle.std.proofs.Common.{◌∙◌, ℕ, List, IsPermutation, ap, map, subst}
use Rattle.agenda_table.specs.Dates.{is_local, shown_by}
use Rattle.agenda_table.specs.Keys.{falls_among, second_of}
use Rattle.agenda_table.proofs.KeyLemmas.{sorted_same}
use Rattle.agenda_table.proofs.dates.dates_of.Goals as goal

pub returns : goal.returns
returns c = λ times years same date.
    let clock = c.args.clock.now in
    let sorted = c.sort_unstable.new.self.items in
    let permuted = subst (λ (keys : List ℕ). IsPermutation keys sorted) same c.sort_unstable.ensures.permutation in
    c.in_ok-dates.ensures date
    ∙ ap (λ (keys : List ℕ). falls_among (shown_by clock) date (map second_of keys)) c.deref.ensures.value
    ∙ sorted_same (shown_by clock) (is_local clock) date times sorted years permuted c.sort_unstable.ensures.sorted
