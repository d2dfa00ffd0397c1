use Rattle.std.proofs.Common.{◌≡◌, drop, map}
use Rattle.plan_services.specs.declared.commands.Section.TheVariants.{Other}
use Rattle.plan_services.specs.Commands.{after_lines}
use Rattle.plan_texts.specs.WholeLines.{whole_text}
use Rattle.plan_services.proofs.commands.after_lines.Given as goal

-- what is said so far, with the lines that are left, is all
abbrev pub invariant-loop-line : goal.invariant-loop-line
invariant-loop-line l =
    after_lines l.commands l.inside (map whole_text (drop l.line-index l.lines)) ≡ after_lines l.fn.before Other (map whole_text l.lines)
