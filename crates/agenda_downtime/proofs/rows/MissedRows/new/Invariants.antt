use Rattle.std.proofs.Common.{◌≡◌, take}
use Rattle.agenda_downtime.specs.Rows.{missed_texts}
use Rattle.agenda_downtime.proofs.rows.MissedRows.new.Given as goal

-- what the rows so far have
abbrev pub invariant-loop-one : goal.invariant-loop-one
invariant-loop-one l = l.rows.items ≡ missed_texts l.jobs (take l.one-index l.missed)
