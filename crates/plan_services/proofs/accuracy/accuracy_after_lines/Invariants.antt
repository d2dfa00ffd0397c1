use Rattle.std.proofs.Common.{◌≡◌, drop, false, map}
use Rattle.plan_texts.specs.WholeLines.{whole_text}
use Rattle.plan_services.specs.Accuracy.{accuracy_after_lines}
use Rattle.plan_services.proofs.accuracy.accuracy_after_lines.Given as goal

abbrev pub invariant-loop-line : goal.invariant-loop-line
invariant-loop-line l =
    accuracy_after_lines l.accuracy l.inside (map whole_text (drop l.line-index l.lines))
    ≡ accuracy_after_lines l.before false (map whole_text l.lines)
