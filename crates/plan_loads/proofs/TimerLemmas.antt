-- Lines without blanks at their ends.
use Rattle.std.proofs.Common.{◌≡◌, List, [], ◌∷◌, map, refl, ap}
use Rattle.plan_loads.specs.TimerLines.{trimmed_lines}
use Rattle.plan_rules.specs.TimerEntries.{shown_line}
use Rattle.plan_texts.specs.WholeLines.{whole_text}
use Rattle.plan_texts.specs.declared.whole_lines.WholeLine.{WholeLine}

pub trimmed_whole : (lines : List WholeLine) → trimmed_lines (map whole_text lines) ≡ map shown_line lines
trimmed_whole [] = refl
trimmed_whole (line ∷ more) = ap (λ rest. shown_line line ∷ rest) (trimmed_whole more)
