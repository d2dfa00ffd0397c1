-- A text that has no row is a new key, and goes last.
use Rattle.std.proofs.Common.{ap, not, subst, sym, ◌∙◌}
use Rattle.std.specs.Map.{values_of}
use Rattle.agenda_table.specs.Dates.{AreInYears}
use Rattle.agenda_changes.specs.Counts.{row_of, with_first}
use Rattle.agenda_changes.proofs.KeyLemmas.{added, added_in_years, kept, shown}
use Rattle.agenda_changes.proofs.firsts.Firsts.add.Goals as goal

pub invariant_of-self : goal.invariant_of-self
invariant_of-self c =
    subst (λ es. AreInYears (values_of es)) (sym c.in_ok-insert.ensures.entries)
    (added_in_years (λ key. key.items) c.self.inside.seconds c.in_ok-runs.runs c.args.runs.now c.args.second c.row.result
    (c.row.ensures ∙ ap (row_of c.args.runs.now) (sym c.self.view_is)) (c.is_none.ensures ∙ ap not c.if-is_none.true)
    c.in_ok-runs.ensures.items c.requires c.self.invariant)

pub returns-in_ok-insert : goal.returns-in_ok-insert
returns-in_ok-insert c =
    ap (shown (λ key. key.items)) c.in_ok-insert.ensures.entries
    ∙ added (λ key. key.items) c.self.inside.seconds c.in_ok-runs.runs c.args.runs.now c.args.second c.row.result
    (c.row.ensures ∙ ap (row_of c.args.runs.now) (sym c.self.view_is)) (c.is_none.ensures ∙ ap not c.if-is_none.true)
    c.in_ok-runs.ensures.items
    ∙ ap (λ fs. with_first fs c.args.runs.now c.args.second) c.self.view_is

pub returns-else-is_none : goal.returns-else-is_none
returns-else-is_none c =
    kept c.args.runs.now c.args.second c.args.self.now c.row.result c.row.ensures (c.is_none.ensures ∙ ap not c.if-is_none.false)
