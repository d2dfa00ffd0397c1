-- The text without its idle jobs is a text of a crontab: for `active_text_is_read`.
--
-- Each line is UTF-8 as before. An empty line in place of one with a job is shorter, which makes up for a newline that is
-- added at the end.
use Rattle.std.proofs.Common.{◌≡◌, ℕ, zero, suc, ◌+◌, ◌<◌, ◌≤◌, ◌==◌, Bool, true, false, cond, if◌then◌else◌, List, [], ◌∷◌, ◌++◌, length, get_or, take, drop, Option, Some, None, Ok, Err, refl, sym, subst, arith, length-append}
use Rattle.std.proofs.lemmas.Bool.{le-ltb}
use Rattle.std.proofs.lemmas.Bool.Decides.{nat_tests}
use Rattle.std.proofs.lemmas.Str.{IsCharBoundary-after_ascii, IsCharBoundary-before_ascii, IsUtf8-append, IsUtf8-drop, IsUtf8-from_ascii, IsUtf8-from_is_utf8, IsUtf8-nil, IsUtf8-take, is_utf8-from_IsUtf8}
use Rattle.std.proofs.Math.Seq.{drop-append-add, get_or-append_seam, take-append_seam}
use Rattle.std.specs.List.{cons_option}
use Rattle.std.specs.Str.{IsAscii, IsUtf8, is_utf8}
use Rattle.plan_parts.proofs.LinesLemmas.{with_newline_is}
use Rattle.plan_parts.specs.Merging.{ends_line}
use Rattle.plan_rules.specs.declared.crontabs.Kind.{Kind}
use Rattle.plan_rules.specs.declared.line_fault.LineCause.TheVariants.{TooLarge, NotUtf8}
use Rattle.plan_rules.specs.FileText.{text_reading}
use Rattle.plan_rules.specs.LineFaults.{on_line}
use Rattle.plan_texts.proofs.LinesLemmas.{written-lines}
use Rattle.plan_texts.specs.Limits.{most_bytes}
use Rattle.plan_texts.specs.Lines.{is_too_large, lines, with_newline, written}
use Rattle.plan_tree.specs.Tree.{Held}
use Rattle.plan_runs.specs.declared.idle.IdleJob.{IdleJob}
use Rattle.plan_runs.specs.Idle.{ActiveTextIsRead, active_lines, active_or_all, idle_from, idle_on, idle_why, kept_from, kept_line}
use Rattle.plan_runs.specs.Settings.{Settings, first_settings, settings_after}
use Rattle.plan_runs.proofs.IdleLemmas.{empty_why}

-- ---- UTF-8

newline_ascii : IsAscii (10 ∷ [])
newline_ascii zero = omega arith
newline_ascii (suc k) = omega arith

newline_utf8 : IsUtf8 (10 ∷ [])
newline_utf8 = IsUtf8-from_ascii (10 ∷ []) newline_ascii

ended_utf8 : (text : List ℕ) → IsUtf8 text → IsUtf8 (with_newline text)
ended_utf8 text utf8 =
    let by : (e : Bool) → IsUtf8 (cond e text (text ++ 10 ∷ [])) = λ e. elim e as (λ e. IsUtf8 (cond e text (text ++ 10 ∷ []))) [
      | true ↦ utf8
      | false ↦ IsUtf8-append text (10 ∷ []) utf8 newline_utf8
    ] in
    subst IsUtf8 (sym (with_newline_is text)) (by (ends_line text))

-- a line, and what is below it
line_utf8 : (line rest : List ℕ) → IsUtf8 (line ++ 10 ∷ rest) → IsUtf8 line × IsUtf8 rest
line_utf8 line rest utf8 =
    let all = line ++ 10 ∷ rest in
    let long : length all ≡ length line + suc (length rest) = length-append line (10 ∷ rest) in
    let inside : length line < length all = omega (arith, long) in
    let here : get_or all (length line) 0 ≡ 10 = get_or-append_seam line 10 rest 0 in
    let ascii : get_or all (length line) 0 < 128 = omega (arith, here) in
    let first : IsUtf8 (take (length line) all) =
    IsUtf8-take all (length line) utf8 (IsCharBoundary-before_ascii all (length line) inside ascii) in
    let second : IsUtf8 (drop (length line + 1) all) =
    IsUtf8-drop all (length line + 1) utf8 (IsCharBoundary-after_ascii all (length line) utf8 inside ascii) in
    (subst IsUtf8 (take-append_seam line (10 ∷ rest)) first, subst IsUtf8 (drop-append-add line (10 ∷ rest) 1) second)

kept_line_utf8 : (why : Option (List ℕ)) (line : List ℕ) → IsUtf8 line → IsUtf8 (kept_line why line)
kept_line_utf8 None line utf8 = utf8
kept_line_utf8 (Some why) line utf8 = IsUtf8-nil

kept_utf8 :
    (held : Held) (kind : Kind) (settings : Settings) (number : ℕ) (ls : List (List ℕ)) → IsUtf8 (written ls) →
    IsUtf8 (written (kept_from held kind settings number ls))
kept_utf8 held kind settings number [] utf8 = utf8
kept_utf8 held kind settings number (line ∷ more) utf8 =
    let cut = line_utf8 line (written more) utf8 in
    let why = idle_why held kind settings number line in
    let rest = written (kept_from held kind (settings_after settings line) (number + 1) more) in
    IsUtf8-append (kept_line why line) (10 ∷ rest) (kept_line_utf8 why line cut.0)
    (IsUtf8-append (10 ∷ []) rest newline_utf8 (kept_utf8 held kind (settings_after settings line) (number + 1) more cut.1))

-- ---- the size

-- an idle job takes a byte at least
kept_line_length :
    (line : List ℕ) (why : Option (List ℕ)) (number : ℕ) → (line ≡ [] → why ≡ None) →
    length (kept_line why line) + length (cons_option (idle_on number why) []) ≤ length line
kept_line_length line None number some = omega arith
kept_line_length [] (Some why) number some = absurd (let none = some refl in cc)
kept_line_length (b ∷ line) (Some why) number some = omega arith

more_jobs : (one : Option IdleJob) (rest : List IdleJob) → length (cons_option one rest) ≡ length (cons_option one []) + length rest
more_jobs None rest = omega arith
more_jobs (Some job) rest = omega arith

kept_length :
    (held : Held) (kind : Kind) (settings : Settings) (number : ℕ) (ls : List (List ℕ)) →
    length (written (kept_from held kind settings number ls)) + length (idle_from held kind settings number ls) ≤ length (written ls)
kept_length held kind settings number [] = omega arith
kept_length held kind settings number (line ∷ more) =
    let why = idle_why held kind settings number line in
    let next = settings_after settings line in
    let rest = written (kept_from held kind next (number + 1) more) in
    let jobs = idle_from held kind next (number + 1) more in
    let below : length rest + length jobs ≤ length (written more) = kept_length held kind next (number + 1) more in
    let here : length (kept_line why line) + length (cons_option (idle_on number why) []) ≤ length line =
    kept_line_length line why number (λ empty. rw empty (empty_why held kind settings number)) in
    let text : length (kept_line why line ++ 10 ∷ rest) ≡ length (kept_line why line) + suc (length rest) =
    length-append (kept_line why line) (10 ∷ rest) in
    let all : length (line ++ 10 ∷ written more) ≡ length line + suc (length (written more)) = length-append line (10 ∷ written more) in
    let idle : length (cons_option (idle_on number why) jobs) ≡ length (cons_option (idle_on number why) []) + length jobs =
    more_jobs (idle_on number why) jobs in
    omega (arith, below, here, text, all, idle)

ended_length : (text : List ℕ) → length (with_newline text) ≤ length text + 1
ended_length text =
    let by : (e : Bool) → length (cond e text (text ++ 10 ∷ [])) ≤ length text + 1 =
    λ e. elim e as (λ e. length (cond e text (text ++ 10 ∷ [])) ≤ length text + 1) [
      | true ↦ omega arith
      | false ↦ omega (arith, length-append text (10 ∷ []))
    ] in
    let P : List ℕ → Type 0 = λ ended. length ended ≤ length text + 1 in
    subst P (sym (with_newline_is text)) (by (ends_line text))

-- ---- the text

read_by :
    (large utf8 : Bool) (bytes text : List ℕ) →
    on_line 0 (if large then Err TooLarge else (if utf8 then Ok bytes else Err NotUtf8)) ≡ Ok text →
    (large ≡ false) × ((utf8 ≡ true) × (bytes ≡ text))
read_by true utf8 bytes text is = absurd (cc is)
read_by false true bytes text is = (refl, (refl, cc))
read_by false false bytes text is = absurd (cc is)

is_read : (text : List ℕ) → length text ≤ most_bytes → IsUtf8 text → text_reading text ≡ Ok text
is_read text few utf8 =
    let small : is_too_large text ≡ false = le-ltb _ _ few in
    rw (small, is_utf8-from_IsUtf8 text utf8) refl

few_bytes : (text : List ℕ) → is_too_large text ≡ false → length text ≤ most_bytes
few_bytes text small = grind (arith, nat_tests, small)

-- either the text is as it was, or it lost a byte at least
either_read :
    (text kept : List ℕ) (idle : List IdleJob) → length text ≤ most_bytes → IsUtf8 text → IsUtf8 kept →
    length kept + length idle ≤ length text + 1 →
    let active = active_or_all text (record { text = kept; idle = idle }) in
    text_reading active.text ≡ Ok active.text
either_read text kept [] few utf8 kept_is shorter = is_read text few utf8
either_read text kept (job ∷ idle) few utf8 kept_is shorter =
    let some : (length (job ∷ idle) == 0) ≡ false = grind (arith, nat_tests) in
    rw some (is_read kept (omega (arith, few, shorter)) kept_is)

pub active_text_is_read : ActiveTextIsRead
active_text_is_read held kind owner bytes text read =
    let is = read_by (is_too_large bytes) (is_utf8 bytes) bytes text read in
    let few : length bytes ≤ most_bytes = few_bytes bytes is.0 in
    let utf8 : IsUtf8 bytes = IsUtf8-from_is_utf8 bytes is.1.0 in
    let ls = lines bytes in
    let ended : IsUtf8 (written ls) = subst IsUtf8 (sym (written-lines bytes)) (ended_utf8 bytes utf8) in
    let long : length (written ls) ≤ length bytes + 1 = rw (written-lines bytes) (ended_length bytes) in
    let shorter : length (written (kept_from held kind (first_settings owner) 1 ls)) + length (idle_from held kind (first_settings owner) 1 ls)
    ≤ length bytes + 1 = omega (arith, kept_length held kind (first_settings owner) 1 ls, long) in
    let P : List ℕ → Type 0 = λ t. text_reading (active_or_all bytes (active_lines held kind owner (lines t))).text
    ≡ Ok (active_or_all bytes (active_lines held kind owner (lines t))).text in
    subst P is.1.1 (either_read bytes (active_lines held kind owner ls).text (active_lines held kind owner ls).idle few utf8
    (kept_utf8 held kind (first_settings owner) 1 ls ended) shorter)
