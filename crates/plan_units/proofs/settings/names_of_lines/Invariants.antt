use Rattle.std.proofs.Common.{◌≡◌, ◌++◌, drop, false, map}
use Rattle.plan_texts.specs.WholeLines.{whole_text}
use Rattle.plan_units.specs.Settings.{names_of_lines}
use Rattle.plan_units.proofs.settings.names_of_lines.Given as goal

abbrev pub invariant-loop-line : goal.invariant-loop-line
invariant-loop-line l =
    l.names.items ++ names_of_lines l.unit l.inside (map whole_text (drop l.line-index l.lines))
    ≡ names_of_lines l.unit false (map whole_text l.lines)
