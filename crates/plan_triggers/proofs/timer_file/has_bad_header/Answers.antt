use Rattle.std.proofs.Common.{rules, tests, sym, ◌∙◌}
use Rattle.std.proofs.lemmas.Iterator.{YieldsList-from_slice}
use Rattle.std.proofs.lemmas.Iterator.Search.{any_from_yields_List}
use Rattle.plan_rules.specs.TimerEntries.{shown_line}
use Rattle.plan_triggers.specs.TimerFile.{is_bad_header}
use Rattle.plan_triggers.proofs.TimerFileLemmas.{any_shown}
use Rattle.plan_triggers.proofs.timer_file.has_bad_header.Goals as goal

pub returns : goal.returns
returns c =
    any_from_yields_List (λ line. is_bad_header (shown_line line).1) _ _ c.any.result c.any.ensures.ran
    (YieldsList-from_slice c.args.lines.now c.iter.ensures.rest) (λ x b q k. search (rules, tests))
    ∙ sym (any_shown shown_line (λ line. is_bad_header line.1) c.args.lines.now)
