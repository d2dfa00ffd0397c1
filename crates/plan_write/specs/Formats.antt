-- How an answer is written: as text or as JSON, in UTC or by the clock of a zone (agenda).
use Rattle.std.specs.Prelude.{false, None}
use Rattle.plan_write.specs.declared.formats.Format.{Format}

-- text in UTC
abbrev pub utc_text : Format
utc_text = record { json = false; local = None }
