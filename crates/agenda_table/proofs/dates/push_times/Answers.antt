use Rattle.std.proofs.Common.{◌≡◌, ◌≤◌, ◌++◌, ℕ, List, ap, arith, get_or, take, take_all, ◌∙◌, append_assoc, refl}
use Rattle.std.specs.List.{flat_map}
use Rattle.plan_sets.specs.Limits.{end_second}
use Rattle.agenda_table.specs.Keys.{keys_in}
use Rattle.agenda_table.proofs.RowLemmas.{pieces_more}
use Rattle.agenda_table.proofs.YearLemmas.{one_in_years}
use Rattle.agenda_table.proofs.dates.push_times.Goals as goal

pub loop-time-preserved : goal.loop-time-preserved
loop-time-preserved c =
    let keys = keys_in c.args.clock.now in
    let times = c.args.times.now in
    let i = c.loop-time.time-index in
    let time : ℕ = get_or times i 0 in
    let years : time ≤ end_second = one_in_years times i 0 c.requires c.loop-time-test.true in
    let same : c.min.result ≡ time = omega (arith, c.min.ensures, years) in
    let old : List ℕ = c.args.keys.now.items in
    let so_far : List ℕ = flat_map keys (take i times) in
    c.in_ok-push_time.ensures ∙ ap (λ (n : ℕ). c.loop-time.keys.items ++ keys n) same
    ∙ ap (λ (items : List ℕ). items ++ keys time) c.loop-time.invariant ∙ append_assoc old so_far (keys time)
    ∙ ap (λ (items : List ℕ). old ++ items) (pieces_more keys times i time 0 c.loop-time-test.true refl)

pub returns : goal.returns
returns c =
    c.loop-time.invariant ∙ ap (λ (times : List ℕ). c.args.keys.now.items ++ flat_map (keys_in c.args.clock.now) times)
    (take_all c.loop-time.time-index c.args.times.now c.loop-time-test.false)
