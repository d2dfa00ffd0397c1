use Rattle.std.proofs.Common.{◌≡◌, ◌++◌, ℕ, List, OnOk, Ok, map, ap, subst, sym, ◌∙◌}
use Rattle.plan_texts.specs.WholeLines.{whole_lines, trimmed}
use Rattle.plan_rules.specs.LineFaults.{TextReading}
use Rattle.plan_rules.specs.TimerEntries.{shown_line}
use Rattle.plan_rules.proofs.TimerFaults.{trimmed_lines}
use Rattle.plan_rules.proofs.TimerEntryLemmas.{lines_of_file}
use Rattle.plan_check.specs.Timers.{after_timer, timer_findings}
use Rattle.plan_check.proofs.NoteLemmas.{text_is}
use Rattle.plan_check.proofs.timers.add_timer.Goals as goal

pub returns-in_ok-lines-in-Ok : goal.returns-in_ok-lines-in-Ok
returns-in_ok-lines-in-Ok c =
    let lines : map {B = ℕ × List ℕ} shown_line c.as_slice.result.now ≡
    map {B = ℕ × List ℕ} (λ line. (line.0, trimmed line.1)) (whole_lines c.in-Ok.text.now) =
    ap (map shown_line) c.as_slice.ensures.value ∙ trimmed_lines c.in_ok-lines-in-Ok.lines.items
    ∙ ap (map (λ line. (line.0, trimmed line.1))) c.in_ok-lines-in-Ok.ensures in
    let of_file = lines_of_file c.args.bytes.now c.in-Ok.text.now (map shown_line c.as_slice.result.now) c.in-Ok.ensures.value lines in
    let Found : TextReading (List (ℕ × List ℕ)) → Type 0 = λ reading. OnOk c.add_lines.result
    (c.add_lines.new.found.items ≡ c.args.found.now.items ++ timer_findings c.args.context.now c.args.known.now c.args.name.now c.args.bytes.now reading) in
    let Kept : TextReading (List (ℕ × List ℕ)) → Type 0 = λ reading. OnOk c.add_lines.result
    (c.add_lines.new.known ≡ after_timer c.args.context.now c.args.known.now c.args.name.now reading) in
    let same = text_is c.args.bytes.now c.in-Ok.text.now c.in-Ok.ensures.value in
    let Of : List ℕ → Type 0 = λ text. OnOk c.add_lines.result (c.add_lines.new.found.items ≡ c.args.found.now.items
    ++ timer_findings c.args.context.now c.args.known.now c.args.name.now text (Ok (map shown_line c.as_slice.result.now))) in
    record {
      found = subst Found (sym of_file) (subst Of same c.add_lines.ensures.found);
      known = subst Kept (sym of_file) c.add_lines.ensures.known;
    }
