-- Which errors a crontab has: a failed allocation has line 0, and never is inside a rule's error.
-- For all clauses of `crontab`, and for some of `timer`. `line` and `jobs` follow the definition: each step, choice and entry
-- keeps this property of its errors. `answered` carries it over to an answer, which may be a failed allocation instead.
use Rattle.std.proofs.Common.{◌≡◌, ◌≢◌, ℕ, ◌+◌, eqb, List, [], ◌∷◌, length, Option, None, Some, Result, Ok, Err, IfErr, refl, ap, sym, inl, inr, subst, arith}
use Rattle.std.proofs.lemmas.Bool.Decides.{nat_tests}
use Rattle.std.proofs.lemmas.Bool.{cases_eq}
use Rattle.std.specs.List.{cons_option, enumerate_from, filter_map, list_any, slice_get}
use Rattle.plan_rules.specs.declared.crontabs.Kind.{Kind}
use Rattle.plan_rules.specs.declared.crontabs.Kind.TheVariants.{User, System}
use Rattle.plan_grammar.specs.declared.fault.RuleFault.{RuleFault}
use Rattle.plan_grammar.specs.declared.fault.RuleCause.{RuleCause}
use Rattle.plan_grammar.specs.declared.fault.RuleCause.TheVariants as cause
use Rattle.plan_rules.specs.declared.entry.Entry.{Entry}
use Rattle.plan_rules.specs.declared.line_fault.LineCause.{LineCause}
use Rattle.plan_rules.specs.declared.line_fault.LineCause.TheVariants.{NoMemory, NotUtf8, TooLarge, Rule, BadSetting, BadTimerName, BadTabName}
use Rattle.plan_rules.specs.declared.line_fault.LineFault.{LineFault}
use Rattle.plan_texts.specs.EachLaws.{err_steps, err_choice}
use Rattle.plan_texts.specs.Steps.{GivesUnless}
use Rattle.plan_grammar.specs.Readings.{Reading}
use Rattle.plan_texts.specs.Lines.{after_blanks, cut_word}
use Rattle.plan_rules.specs.Job.{JobParts}
use Rattle.plan_rules.specs.LineFaults.{LineReading, TextReading, IsOwnCause, cause_by_cause, in_line, on_line, fault_on_line, want_of_memory}
use Rattle.plan_grammar.specs.Cron.{rule_in_front}
use Rattle.plan_rules.specs.Entries.{entry_on, given, meant_by, fault_on, faults_of, unless_faulty}
use Rattle.plan_rules.specs.Crontab.{command_reading, user_and_command, what_reading, job_reading, begins_setting, entry_reading, line_reading, line_entry, entries_of_lines}

-- a cause that is found in the lines of a text
abbrev pub IsLineCause : LineCause → Type 0
IsLineCause (Rule fault) = fault.cause ≢ cause.NoMemory
IsLineCause NotUtf8 = ⊥
IsLineCause TooLarge = ⊥
IsLineCause BadTimerName = ⊥
IsLineCause BadTabName = ⊥
IsLineCause other = Unit {0}

pub own_cause : (c : LineCause) → IsLineCause c → IsOwnCause c
own_cause (Rule fault) own = own
own_cause other own = tt

pub no_name : (c : LineCause) → IsLineCause c → c ≢ BadTabName
no_name BadTabName own = absurd own
no_name c own = λ same. cc

-- what is true of each error
abbrev pub IsOwnFault : LineFault → Type 0
IsOwnFault fault = (fault.cause ≡ NoMemory → fault.line ≡ 0) × IsLineCause fault.cause

-- ---- the cause of a line

rule_cause : (c : RuleCause) (fault : RuleFault) → fault.cause ≡ c → IsLineCause (cause_by_cause c fault)
rule_cause cause.NoMemory fault is = tt
rule_cause c fault is = λ none. cc

pub rule_in : {A : Type 0} (r : Reading A) → IfErr (in_line r) IsLineCause
rule_in (Ok x) = tt
rule_in (Err fault) = rule_cause fault.cause fault refl

command : (text : List ℕ) → IfErr (command_reading text) IsLineCause
command text = err_choice IsLineCause (eqb (length text) 0) _ _ tt tt

user : (cut : Option (List ℕ × List ℕ)) → IfErr (user_and_command cut) IsLineCause
user cut = grind (arith, nat_tests, command)

what : (kind : Kind) (text : List ℕ) → IfErr (what_reading kind text) IsLineCause
unfolding what_reading
what User text = err_steps IsLineCause (command_reading (after_blanks text)) _ (command (after_blanks text)) (λ c. tt)
what System text = user (cut_word text)

job : (label : List ℕ) (kind : Kind) (number : ℕ) (text : List ℕ) → IfErr (job_reading label kind number text) IsLineCause
unfolding job_reading
job label kind number text =
    err_steps IsLineCause (in_line (rule_in_front text)) _ (rule_in (rule_in_front text))
    (λ front. err_steps IsLineCause (what_reading kind front.1) _ (what kind front.1) (λ c. tt))

entry :
    (label : List ℕ) (kind : Kind) (number : ℕ) (text : List ℕ) (first : Option ℕ) →
    IfErr (entry_reading label kind number text first) IsLineCause
entry label kind number text None = tt
entry label kind number text (Some first) =
    err_choice IsLineCause (eqb first 35) _ _ tt
    (err_choice IsLineCause (begins_setting first) _ _
    (err_choice IsLineCause (list_any (λ b. eqb b 61) text) (Ok None) (Err BadSetting) tt tt)
    (err_steps IsLineCause (job_reading label kind number text) _ (job label kind number text) (λ j. tt)))

line : (label : List ℕ) (kind : Kind) (number : ℕ) (text : List ℕ) → IfErr (line_reading label kind number text) IsLineCause
unfolding line_reading
line label kind number text = entry label kind number (after_blanks text) (slice_get (after_blanks text) 0)

-- ---- the error of a text

fault_of : (number : ℕ) (c : LineCause) → IsLineCause c → IsOwnFault (fault_on_line number c)
fault_of number NoMemory own = (λ is. refl, tt)
fault_of number c own = (λ is. cc, own)

pub on : {A : Type 0} (number : ℕ) (r : LineReading A) → IfErr r IsLineCause → IfErr (on_line number r) IsOwnFault
on number (Ok x) own = tt
on number (Err c) own = fault_of number c own

-- the first of these errors that there is
pub rejected_first :
    {A B : Type 0} (number : ℕ) (read : LineReading A) (more : List LineFault) (x : B) → IfErr read IsLineCause →
    IfErr (unless_faulty more x) IsOwnFault → IfErr (unless_faulty (cons_option (fault_on number read) more) x) IsOwnFault
rejected_first number (Ok y) more x own later = later
rejected_first number (Err c) more x own later = fault_of number c own

entry_first :
    {A B : Type 0} (number : ℕ) (read : LineReading (Option A)) (more : List (Entry A)) (x : B) → IfErr read IsLineCause →
    IfErr (unless_faulty (faults_of more) x) IsOwnFault →
    IfErr (unless_faulty (faults_of (cons_option (entry_on number read) more)) x) IsOwnFault
entry_first number (Ok None) more x own later = later
entry_first number (Ok (Some y)) more x own later = later
entry_first number (Err c) more x own later = fault_of number c own

lines : {B : Type 0} (label : List ℕ) (kind : Kind) (texts : List (ℕ × List ℕ)) (x : B) →
    IfErr (unless_faulty (faults_of (filter_map (line_entry label kind) texts)) x) IsOwnFault
lines label kind [] x = tt
lines label kind (text ∷ more) x =
    entry_first (text.0 + 1) (line_reading label kind (text.0 + 1) text.1) (filter_map (line_entry label kind) more) x
    (line label kind (text.0 + 1) text.1) (lines label kind more x)

-- ---- so every error that a call returns

unless_memory :
    (number : ℕ) (c : LineCause) →
    ((record { line = number; cause = c }) ≢ want_of_memory → IsOwnFault (record { line = number; cause = c })) →
    IsOwnFault (record { line = number; cause = c })
unless_memory number NoMemory other =
    elim (cases_eq number 0) [
      | inl none ↦ (λ is. none, tt)
      | inr some ↦ other (λ same. some (ap (λ (f : LineFault). f.line) same))
    ]
unless_memory number c other = other (λ same. cc (ap (λ (f : LineFault). f.cause) same))

pub answered :
    {A B : Type 0} (view : A → B) (answer : Result A LineFault) (reading : TextReading B) → GivesUnless want_of_memory view answer reading →
    IfErr reading IsOwnFault → IfErr answer IsOwnFault
answered view (Ok x) reading gives own = tt
answered view (Err fault) reading gives own =
    unless_memory fault.line fault.cause (λ other. at_fault reading (gives other) own)
  where
    at_fault : {C : Type 0} (r : TextReading C) → r ≡ Err fault → IfErr r IsOwnFault → IsOwnFault fault
    at_fault (Ok x) is own = absurd cc
    at_fault (Err e) is own = let same : e ≡ fault = cc in rw (sym same) own

-- so of the lines of a crontab
pub jobs :
    {A : Type 0} (view : A → List JobParts) (answer : Result A LineFault) (label : List ℕ) (kind : Kind) (texts : List (List ℕ)) →
    GivesUnless want_of_memory view answer (meant_by (entries_of_lines label kind texts)) → IfErr answer IsOwnFault
unfolding entries_of_lines
jobs view answer label kind texts gives =
    let found = filter_map (line_entry label kind) (enumerate_from 0 texts) in
    answered view answer (meant_by found) gives (lines label kind (enumerate_from 0 texts) (given found))

-- an error of the whole text is none of these
pub no_other :
    {A : Type 0} (answer : Result A LineFault) (fault : LineFault) → IfErr answer IsOwnFault → (IsLineCause fault.cause → ⊥) →
    answer ≢ Err fault
no_other (Ok x) fault own none same = cc
no_other (Err e) fault own none same = let is : e.cause ≡ fault.cause = cc in none (subst IsLineCause is own.1)
