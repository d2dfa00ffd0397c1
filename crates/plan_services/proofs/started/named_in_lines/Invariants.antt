use Rattle.std.proofs.Common.{◌≡◌, drop, false, map}
use Rattle.plan_texts.specs.WholeLines.{whole_text}
use Rattle.plan_services.specs.Started.{named_in_lines}
use Rattle.plan_services.proofs.started.named_in_lines.Given as goal

abbrev pub invariant-loop-line : goal.invariant-loop-line
invariant-loop-line l =
    named_in_lines l.unit false (map whole_text l.lines)
    ≡ named_in_lines l.unit l.inside (map whole_text (drop l.line-index l.lines))
