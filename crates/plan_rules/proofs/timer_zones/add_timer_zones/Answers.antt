use Rattle.std.proofs.Common.{◌≡◌, ℕ, List, map, ap, subst, sym, ◌∙◌}
use Rattle.plan_texts.specs.WholeLines.{whole_lines, trimmed}
use Rattle.plan_rules.specs.LineFaults.{TextReading}
use Rattle.plan_rules.specs.Names.{with_names}
use Rattle.plan_rules.specs.TimerEntries.{shown_line}
use Rattle.plan_rules.specs.TimerZones.{lines_zones}
use Rattle.plan_rules.proofs.TimerFaults.{trimmed_lines}
use Rattle.plan_rules.proofs.TimerEntryLemmas.{lines_of_file}
use Rattle.plan_rules.proofs.timer_zones.add_timer_zones.Goals as goal

pub returns-clause-added : goal.returns-clause-added
returns-clause-added c =
    let lines : map {B = ℕ × List ℕ} shown_line c.as_slice.result.now ≡
    map {B = ℕ × List ℕ} (λ line. (line.0, trimmed line.1)) (whole_lines c.in-Ok.text.now) =
    ap (map shown_line) c.as_slice.ensures.value ∙ trimmed_lines c.in_ok-lines.lines.items
    ∙ ap (map (λ line. (line.0, trimmed line.1))) c.in_ok-lines.ensures in
    let of_file = lines_of_file c.args.bytes.now c.in-Ok.text.now (map shown_line c.as_slice.result.now) c.in-Ok.ensures.value lines in
    let P : TextReading (List (ℕ × List ℕ)) → Type 0 = λ reading. c.add_lines_zones.new.names
    ≡ with_names c.args.names.now (lines_zones reading) in
    subst P (sym of_file) c.in_default-add_lines_zones.ensures.added
