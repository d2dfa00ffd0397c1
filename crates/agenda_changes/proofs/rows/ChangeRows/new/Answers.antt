use Rattle.std.proofs.Common.{List, map, ap, ◌∙◌}
use Rattle.plan_baseline.specs.Line.{Line}
use Rattle.plan_changes.specs.Lines.{lines_of}
use Rattle.agenda_changes.specs.Counts.{counts_of}
use Rattle.agenda_changes.specs.Rows.{change_of, changed_lines, firsts}
use Rattle.agenda_changes.proofs.RowLemmas.{counts_len}
use Rattle.agenda_changes.proofs.rows.ChangeRows.new.Goals as goal

pub rows_of-requires : goal.rows_of-requires
rows_of-requires c = record {
  before = counts_len c.args.before.now.lines c.in_ok-firsts.firsts c.deref.result.now
      (c.deref.ensures.value ∙ c.in_ok-before.ensures);
  after = counts_len (lines_of c.args.jobs.now c.entries.result.now) c.in_ok-firsts.firsts c.deref-2.result.now
      (c.deref-2.ensures.value ∙ c.in_ok-after.ensures);
}

pub returns : goal.returns
returns c =
    let later = lines_of c.args.jobs.now c.args.now.now.entries in
    c.in_ok-rows.ensures c.args.before.now.lines later (c.deref.ensures.value ∙ c.in_ok-before.ensures)
    (c.deref-2.ensures.value ∙ c.in_ok-after.ensures
    ∙ ap (λ entries. counts_of (lines_of c.args.jobs.now entries) c.in_ok-firsts.firsts) c.entries.ensures.entries)
    ∙ ap (map (change_of c.args.before.now.lines later))
    (c.in_ok-firsts.ensures
    ∙ ap (λ (now : List Line). firsts (changed_lines c.args.before.now.lines now c.args.changes.now)) c.new-lines.ensures)
