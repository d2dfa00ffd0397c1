-- The lines of a timer that systemd reads otherwise, one after the other: for the loop of `add_each_note`.
use Rattle.std.proofs.Common.{◌≡◌, ℕ, Bool, true, false, cond, Ok, Err, ◌+◌, ◌<◌, List, ◌++◌, length, drop, get_or, map, Option, None, ap, sym, ◌∙◌}
use Rattle.std.proofs.lemmas.List.{append_assoc, drop_more}
use Rattle.std.specs.Str.{is_utf8}
use Rattle.plan_texts.specs.Lines.{is_too_large}
use Rattle.plan_rules.specs.declared.line_fault.LineCause.TheVariants.{NotUtf8, TooLarge}
use Rattle.plan_rules.specs.FileText.{text_reading}
use Rattle.plan_rules.specs.LineFaults.{on_line}
use Rattle.plan_check.specs.declared.finding.Finding.{Finding}
use Rattle.plan_check.specs.declared.finding.FindingKind.TheVariants.{Warned}
use Rattle.plan_check.specs.declared.finding.Warning.TheVariants.{LineEnd}
use Rattle.plan_check.specs.Finding.{found_with}
use Rattle.plan_check.specs.TimerWarnings.{notes_from}
use Rattle.plan_triggers.specs.TimerFile.{line_note}

pub note_more :
    {A : Type 0} (v : A → List ℕ) (lines : List A) (place : ℕ) (d : A) (note : Option (List ℕ)) (found next whole : List Finding) →
    place < length lines → note ≡ line_note (v (get_or lines place d)) →
    next ≡ found ++ found_with note (place + 1) (Warned LineEnd) None →
    found ++ notes_from (place + 1) (map v (drop place lines)) ≡ whole →
    next ++ notes_from (place + 1 + 1) (map v (drop (place + 1) lines)) ≡ whole
note_more v lines place d note found next whole inside note_is is so_far =
    let text = v (get_or lines place d) in
    let more = notes_from (place + 1 + 1) (map v (drop (place + 1) lines)) in
    (λ i. is i ++ more)
    ∙ append_assoc found (found_with note (place + 1) (Warned LineEnd) None) more
    ∙ ap (λ n. found ++ (found_with n (place + 1) (Warned LineEnd) None ++ more)) note_is
    ∙ ap (λ left. found ++ notes_from (place + 1) (map v left)) (sym (drop_more lines place d inside))
    ∙ so_far

same_by :
    (large utf8 : Bool) (bytes text : List ℕ) →
    Ok text ≡ on_line 0 (cond large (Err TooLarge) (cond utf8 (Ok bytes) (Err NotUtf8))) → text ≡ bytes
same_by true utf8 bytes text is = absurd (cc is)
same_by false true bytes text is = cc is
same_by false false bytes text is = absurd (cc is)

-- the text of a file is its bytes
pub text_is : (bytes text : List ℕ) → Ok text ≡ text_reading bytes → text ≡ bytes
text_is bytes text is = same_by (is_too_large bytes) (is_utf8 bytes) bytes text is
