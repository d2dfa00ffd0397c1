-- At the last return the name is valid, and each error is of a line: for the clauses about errors. The meaning is that of the
-- whole lines, by `trimmed_lines`.
use Rattle.std.proofs.Common.{◌≡◌, ℕ, List, map, true, string_bytes, ap, sym, ◌∙◌, rules, subst, true≢false}
use Rattle.std.proofs.lemmas.Result.{IfErr-weaker}
use Rattle.plan_rules.specs.declared.line_fault.LineCause.TheVariants.{NoMemory, BadTimerName}
use Rattle.plan_texts.specs.Steps.{GivesUnless}
use Rattle.plan_rules.specs.LineFaults.{want_of_memory, of_whole, IsOwnCause, TextReading}
use Rattle.plan_rules.specs.Job.{JobParts}
use Rattle.plan_texts.specs.WholeLines.{whole_lines, trimmed}
use Rattle.plan_rules.specs.Timer.{is_timer_name}
use Rattle.plan_rules.specs.TimerEntries.{timer_of_lines}
use Rattle.plan_rules.proofs.CrontabFaults.{IsOwnFault, own_cause, no_other}
use Rattle.plan_rules.proofs.FileFaults.{too_large, not_utf8}
use Rattle.plan_rules.proofs.TimerFaults.{own_lines, timer_of_text, trimmed_lines}
use Rattle.plan_rules.proofs.timers.timer.Goals as goal

pub returns-clause-meaning : goal.returns-clause-meaning
returns-clause-meaning c =
    let named : is_timer_name c.args.name.now ≡ true = search rules in
    let lines : map {B = ℕ × List ℕ} (λ line. (line.number, trimmed (string_bytes line.text))) c.as_slice.result.now ≡
    map {B = ℕ × List ℕ} (λ line. (line.0, trimmed line.1)) (whole_lines c.in_ok-text.text.now) =
    ap (map (λ line. (line.number, trimmed (string_bytes line.text)))) c.as_slice.ensures.value ∙ trimmed_lines c.in_ok-lines.lines.items
    ∙ ap (map (λ line. (line.0, trimmed line.1))) c.in_ok-lines.ensures in
    let P : TextReading JobParts → Type 0 = λ reading. GivesUnless want_of_memory (λ job. job) c.timer_of_lines.result reading in
    subst P
    (ap (timer_of_lines c.args.zones.now c.args.name.now) lines
    ∙ sym (timer_of_text c.args.zones.now c.args.name.now c.args.bytes.now c.in_ok-text.text.now named c.in_ok-text.ensures.value))
    c.timer_of_lines.ensures

pub returns-clause-memory : goal.returns-clause-memory
returns-clause-memory c =
    IfErr-weaker c.timer_of_lines.result IsOwnFault (λ fault. fault.cause ≡ NoMemory → fault.line ≡ 0) (λ fault own. own.0)
    (own_lines c.timer_of_lines.result _ _ _ c.timer_of_lines.ensures)

pub returns-clause-own_cause : goal.returns-clause-own_cause
returns-clause-own_cause c =
    IfErr-weaker c.timer_of_lines.result IsOwnFault (λ fault. IsOwnCause fault.cause) (λ fault own. own_cause fault.cause own.1)
    (own_lines c.timer_of_lines.result _ _ _ c.timer_of_lines.ensures)

pub returns-clause-bad_name : goal.returns-clause-bad_name
returns-clause-bad_name c = (
  λ is. absurd (no_other c.timer_of_lines.result (of_whole BadTimerName)
      (own_lines c.timer_of_lines.result _ _ _ c.timer_of_lines.ensures)
      (λ no. no) is),
  λ other. let named : is_timer_name c.args.name.now ≡ true = search rules in absurd (true≢false (sym named ∙ other)),
)

pub returns-clause-too_large : goal.returns-clause-too_large
returns-clause-too_large c =
    let named : is_timer_name c.args.name.now ≡ true = search rules in
    let both = too_large c.timer_of_lines.result c.args.bytes.now c.in_ok-text.text.now c.in_ok-text.ensures.value
    (own_lines c.timer_of_lines.result _ _ _ c.timer_of_lines.ensures) in
    (λ is. (named, both.0 is), λ is. both.1 is.1)

pub returns-clause-not_utf8 : goal.returns-clause-not_utf8
returns-clause-not_utf8 c =
    let named : is_timer_name c.args.name.now ≡ true = search rules in
    let both = not_utf8 c.timer_of_lines.result c.args.bytes.now c.in_ok-text.text.now c.in_ok-text.ensures.value
    (own_lines c.timer_of_lines.result _ _ _ c.timer_of_lines.ensures) in
    (λ is. (named, both.0 is), λ is. both.1 is.1)
