use Rattle.std.proofs.Common.{map}
use Rattle.plan_changes.specs.Keys.{key_of_start}
use Rattle.plan_changes.proofs.KeyLemmas.{AreKeyed}
use Rattle.plan_changes.proofs.earlier_keys.EarlierKeys.new.Given as goal

-- the keys of the starts so far
abbrev pub invariant-loop-place : goal.invariant-loop-place
invariant-loop-place l = AreKeyed l.fn.texts l.texts l.agenda.lines l.place (map key_of_start l.starts.items)
