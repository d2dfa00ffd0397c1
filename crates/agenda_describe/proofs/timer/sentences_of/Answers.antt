use Rattle.std.proofs.Common.{◌≡◌, ℕ, List, IfOk, map, ap, subst, sym, ◌∙◌}
use Rattle.plan_texts.specs.WholeLines.{whole_lines, trimmed}
use Rattle.plan_rules.specs.LineFaults.{TextReading}
use Rattle.plan_rules.specs.TimerEntries.{shown_line}
use Rattle.plan_rules.proofs.TimerFaults.{trimmed_lines}
use Rattle.plan_rules.proofs.TimerEntryLemmas.{lines_of_file}
use Rattle.agenda_describe.specs.Timers.{sentences_in}
use Rattle.agenda_describe.proofs.timer.sentences_of.Goals as goal

pub returns-in_ok-lines-in-Ok : goal.returns-in_ok-lines-in-Ok
returns-in_ok-lines-in-Ok c =
    let lines : map {B = ℕ × List ℕ} shown_line c.as_slice.result.now ≡
    map {B = ℕ × List ℕ} (λ line. (line.0, trimmed line.1)) (whole_lines c.in-Ok.text.now) =
    ap (map shown_line) c.as_slice.ensures.value ∙ trimmed_lines c.in_ok-lines-in-Ok.lines.items
    ∙ ap (map (λ line. (line.0, trimmed line.1))) c.in_ok-lines-in-Ok.ensures in
    let of_file = lines_of_file c.args.bytes.now c.in-Ok.text.now (map shown_line c.as_slice.result.now) c.in-Ok.ensures.value lines in
    let Are : TextReading (List (ℕ × List ℕ)) → Type 0 = λ reading.
    IfOk c.sentences_of_lines.result (λ found. found.items ≡ sentences_in c.args.zones.now reading) in
    subst Are (sym of_file) c.sentences_of_lines.ensures
