use Rattle.std.proofs.Common.{◌≡◌, drop}
use Rattle.std.specs.List.{list_any}
use Rattle.plan_triggers.specs.Triggers.{is_trigger}
use Rattle.plan_triggers.proofs.triggers.has_any.Given as goal

-- whether one of the remaining settings is a trigger says it of all
abbrev pub invariant-loop-setting : goal.invariant-loop-setting
invariant-loop-setting l =
    list_any is_trigger (drop l.setting-index l.settings) ≡ list_any is_trigger l.settings
