use Rattle.std.proofs.Common.{◌∙◌, ◌++◌, ℕ, List, ap, sym, take, take_all, append_assoc, append-nil}
use Rattle.std.specs.List.{flat_map}
use Rattle.std.specs.Prelude.{slice_get}
use Rattle.std.proofs.lemmas.Grind.{flat_map-append}
use Rattle.plan_write.specs.Upcoming.{start_or_none}
use Rattle.agenda_table.specs.Dates.{job_times, times_of_job}
use Rattle.agenda_table.specs.Keys.{keys_in}
use Rattle.agenda_table.proofs.RowLemmas.{pieces_more}
use Rattle.agenda_table.proofs.YearLemmas.{both_in_years, job_times_in_years}
use Rattle.agenda_table.proofs.dates.dates_of_jobs.Goals as goal

pub loop-start-init : goal.loop-start-init
loop-start-init c =
    let keys = keys_in c.args.clock.now in
    c.in_ok-push_times.ensures ∙ ap (λ (items : List ℕ). items ++ flat_map keys c.args.bounds.now) c.new-keys.ensures.items
    ∙ sym (append-nil (flat_map keys c.args.bounds.now))

pub loop-start-preserved : goal.loop-start-preserved
loop-start-preserved c =
    let keys = keys_in c.args.clock.now in
    let starts = c.args.starts.now in
    let i = c.loop-start.start-index in
    let start = c.start-item.result in
    let times = λ (start : ℕ × ℕ). times_of_job c.args.delays (start_or_none start.0) (slice_get c.args.jobs.now start.1) in
    let old : List ℕ = flat_map keys c.args.bounds.now in
    let so_far : List ℕ = flat_map times (take i starts) in
    c.in_ok-push_job.ensures ∙ ap (λ (items : List ℕ). items ++ flat_map keys (times start)) c.loop-start.invariant
    ∙ append_assoc old (flat_map keys so_far) (flat_map keys (times start))
    ∙ ap (λ (items : List ℕ). old ++ items) (sym (flat_map-append keys so_far (times start)))
    ∙ ap (λ (items : List ℕ). old ++ flat_map keys items)
    (pieces_more times starts i start start c.loop-start-test.true c.start-item.is)

pub returns : goal.returns
returns c =
    let keys = keys_in c.args.clock.now in
    let bounds = c.args.bounds.now in
    let starts = c.args.starts.now in
    let times = job_times c.args.delays starts c.args.jobs.now in
    c.in_ok-dates.ensures (bounds ++ times)
    (both_in_years bounds times c.requires (job_times_in_years c.args.delays starts c.args.jobs.now))
    (c.loop-start.invariant
    ∙ ap (λ (starts : List (ℕ × ℕ)). flat_map keys bounds ++ flat_map keys (job_times c.args.delays starts c.args.jobs.now))
    (take_all c.loop-start.start-index starts c.loop-start-test.false) ∙ sym (flat_map-append keys bounds times))
