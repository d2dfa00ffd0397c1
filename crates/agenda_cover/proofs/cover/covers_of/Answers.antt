use Rattle.std.proofs.Common.{◌≡◌, ◌∙◌, ◌+◌, ap, drop, length, map, subst, sym}
use Rattle.std.proofs.lemmas.List.{drop_all}
use Rattle.std.specs.Prelude.{replicate, slice_get}
use Rattle.std.specs.List.{range_with_len}
use Rattle.plan_collect.specs.Windows.{latest_start}
use Rattle.plan_write.specs.Quiet.{delay_of}
use Rattle.agenda_cover.specs.Counting.{changed_at, with_window}
use Rattle.agenda_cover.specs.Cover.{AreInOrder, cover}
use Rattle.agenda_cover.proofs.CountLemmas.{all_left, counted_more, none_left, totals, written_over}
use Rattle.agenda_cover.proofs.cover.covers_of.Goals as goal

pub loop-entry-init : goal.loop-entry-init
loop-entry-init c =
    let made = c.args.agenda.now in
    let jobs = c.args.jobs.now in
    let counted = c.in_ok-covers.covers.items in
    let start : counted ≡ replicate c.len.result (made.span.since, 0) =
    c.in_ok-covers.ensures ∙ (λ k. replicate c.len.result (c.since-since.ensures.value k, 0)) in
    (λ k. totals jobs (c.upto-upto.ensures.value k) (c.entries-entries.ensures.entries k) 0 counted)
    ∙ all_left made jobs c.len.result counted start ∙ ap (λ n. map (cover made jobs) (range_with_len 0 n)) c.len.ensures.len

pub loop-entry-preserved : goal.loop-entry-preserved
loop-entry-preserved c =
    let jobs = c.args.jobs.now in
    let upto = c.upto-upto.result in
    let entries = c.entries-entries.result.now in
    let i = c.loop-entry.entry-index in
    let entry = c.entry-item.result in
    let counted = c.loop-entry.covers.items in
    let order = subst AreInOrder (sym c.entries-entries.ensures.entries) c.requires in
    let change = with_window entry.0 (latest_start (delay_of (slice_get jobs entry.1)) entry.0) upto in
    let same : c.deref_mut.result.now ≡ counted = c.deref_mut.ensures.value in
    let new : c.count_entry.new.covers ≡ changed_at change entry.1 counted = c.count_entry.ensures ∙ ap (changed_at change entry.1) same in
    let len : length counted ≡ c.loop-entry.covers.len = sym c.loop-entry.covers.ok.0 in
    ap (totals jobs upto (drop (i + 1) entries) 0) (written_over change entry.1 c.loop-entry.covers.len c.count_entry.new.covers counted len new)
    ∙ counted_more jobs upto entries i entry counted c.loop-entry-test.true c.entry-item.is order ∙ c.loop-entry.invariant

pub returns : goal.returns
returns c =
    let jobs = c.args.jobs.now in
    let upto = c.upto-upto.result in
    let entries = c.entries-entries.result.now in
    let counted = c.loop-entry.covers.items in
    sym (none_left jobs upto 0 counted)
    ∙ ap (λ later. totals jobs upto later 0 counted) (sym (drop_all c.loop-entry.entry-index entries c.loop-entry-test.false))
    ∙ c.loop-entry.invariant
