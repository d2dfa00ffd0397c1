use Rattle.std.proofs.Common.{◌≡◌, ◌∙◌, ℕ, ◌+◌, Bool, ap, get_or, sym, map, drop, refl}
use Rattle.std.specs.Prelude.{◌||◌}
use Rattle.agenda_table.specs.Dates.{is_put_back_between, shown_by}
use Rattle.agenda_table.specs.Keys.{falls_after, falls_among, second_of}
use Rattle.agenda_table.specs.Rows.{has_date}
use Rattle.agenda_table.proofs.FallLemmas.{among_first, falls_end, falls_more}
use Rattle.agenda_table.proofs.dates.dates_among.Goals as goal

pub loop-key-init : goal.loop-key-init
loop-key-init c =
    let shown = shown_by c.args.clock.now in
    let keys = c.args.keys.now in
    let is = c.at-before.ensures in (
      λ date.
          (λ k. has_date (c.new-dates.ensures.items k) date || falls_after shown date (is.second k) (map second_of keys))
          ∙ among_first shown date keys c.in-Some.first.now (sym c.in-Some.ensures.value),
      (is.shown ∙ ap shown (sym is.second), (is.second_years, is.shown_years)),
    )

pub loop-key-preserved : goal.loop-key-preserved
loop-key-preserved c =
    let shown = shown_by c.args.clock.now in
    let keys = c.args.keys.now in
    let i = c.loop-key.key-index in
    let before = c.loop-key.before in
    let next = c.at-next.result in
    let is = c.at-next.ensures in
    let key : ℕ = get_or keys i 0 in (
      λ date.
          let old : Bool = has_date c.loop-key.dates.items date in
          let new : Bool = has_date c.push_date.new.dates.items date in
          let pushed : new ≡ (old || is_put_back_between date before.second (shown before.second) (second_of key) (shown (second_of key))) =
          c.in_ok-push_date.ensures date
          ∙ (λ k. old || is_put_back_between date before.second (c.loop-key.invariant.1.0 k) (is.second k) (is.shown k)) in
          ap (λ (n : ℕ). new || falls_after shown date n (map second_of (drop (i + 1) keys))) is.second
          ∙ falls_more shown date before.second keys i key old new (falls_among shown date (map second_of keys)) c.loop-key-test.true
          refl pushed (c.loop-key.invariant.0 date),
      (is.shown ∙ ap shown (sym is.second), (is.second_years, is.shown_years)),
    )

pub returns : goal.returns
returns c =
    let shown = shown_by c.args.clock.now in
    let keys = c.args.keys.now in
    λ date. falls_end shown date c.loop-key.before.second keys c.loop-key.key-index (has_date c.loop-key.dates.items date)
    (falls_among shown date (map second_of keys)) c.loop-key-test.false (c.loop-key.invariant.0 date)
