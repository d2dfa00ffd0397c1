use Rattle.std.proofs.Common.{ap, sym, ◌∙◌}
use Rattle.plan_loads.proofs.TimerLemmas.{trimmed_whole}
use Rattle.plan_triggers.specs.TimerFile.{has_bad_header}
use Rattle.plan_loads.proofs.timer_lines.is_rejected.Goals as goal

pub returns : goal.returns
returns c = c.has_bad_header.ensures ∙ ap has_bad_header (sym (trimmed_whole c.args.lines.now))
