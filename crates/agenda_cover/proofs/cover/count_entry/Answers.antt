use Rattle.std.proofs.Common.{◌≡◌, ◌∙◌, ℕ, ap, arith, get_or, sym}
use Rattle.std.specs.Prelude.{slice_get}
use Rattle.plan_collect.specs.Windows.{latest_start}
use Rattle.plan_write.specs.Quiet.{delay_of}
use Rattle.agenda_cover.specs.Counting.{changed_at, with_window}
use Rattle.agenda_cover.proofs.CountLemmas.{changed_past, changed_within}
use Rattle.agenda_cover.proofs.cover.count_entry.Goals as goal

pub returns-then-number-covers : goal.returns-then-number-covers
returns-then-number-covers c = changed_past _ c.args.entry.1 c.args.covers.now (omega arith)

pub returns : goal.returns
returns c =
    let entry = c.args.entry in
    let change = with_window entry.0 (latest_start (delay_of (slice_get c.args.jobs.now entry.1)) entry.0) c.args.upto in
    let covers = c.args.covers.now in
    let one : ℕ × ℕ = c.index-covers-number.result in
    let here : one ≡ get_or covers c.job-number.result one = c.index-covers-number.is in
    let counted : c.count.new.self ≡ with_window c.second.result c.latest_start_of-latest.result c.args.upto one =
    c.count.ensures ∙ ap (with_window c.second.result c.latest_start_of-latest.result c.args.upto) (sym here) in
    let is : c.count.new.self ≡ change one =
    counted ∙ (λ k. with_window (c.second.ensures k) (c.latest_start_of-latest.ensures.value k) c.args.upto one) in
    changed_within change c.job-number.result covers one c.count.new.self (omega arith) here is
    ∙ ap (λ place. changed_at change place covers) c.job-number.ensures
