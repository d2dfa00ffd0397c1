-- The lines of a timer file, one after the other: for the loop of `read_lines`. What is known before a line, with what the remaining
-- lines add to it, is what all lines say (`one_more`, by a lemma `_front` for each part).
use Rattle.std.proofs.Common.{◌≡◌, ℕ, Bool, true, false, not, ◌&&◌, ◌||◌, if◌then◌else◌, List, [], ◌∷◌, ◌++◌, append-nil, append_assoc, filter, map, Option, Some, None, refl, ap, sym, ◌∙◌}
use Rattle.std.specs.List.{cons_option, list_any}
use Rattle.plan_rules.specs.TimerOptions.{Setting, last_or}
use Rattle.plan_rules.specs.TimerEntries.{TimerState, state_after}
use Rattle.plan_check.specs.Settings.{delay_after, is_delay, stands, stands_after}

-- one more line: what the rest says from the state before it, it says from the state after it
pub one_more :
    {A B : Type 0} (rest : A → TimerState → List (ℕ × List ℕ) → B) {before next step : A} (old : TimerState) {new : TimerState}
    (line : ℕ × List ℕ) (more : List (ℕ × List ℕ)) {left : List (ℕ × List ℕ)} {whole : B} →
    line ∷ more ≡ left → next ≡ step → new ≡ state_after old line.1 →
    rest before old (line ∷ more) ≡ rest step (state_after old line.1) more → rest before old left ≡ whole → rest next new more ≡ whole
one_more rest {before = before} old line more is next_is new_is same so_far =
    (λ i. rest (next_is i) (new_is i) more) ∙ sym same ∙ ap (rest before old) is ∙ so_far

-- whether there is a section, after the last line
pub section_last : (found : Bool) → (found || false) ≡ found
section_last true = refl
section_last false = refl

-- whether such a setting stands after all settings, by whether one stands before them
abbrev pub stands_with : (test revokes : Setting → Bool) → Bool → List Setting → Bool
stands_with test revokes before settings = (before && not (list_any revokes settings)) || stands test revokes settings

revoked : (b e a E M : Bool) → ((b && not (e || E)) || ((a && not E) || M)) ≡ (((a || (b && not e)) && not E) || M)
revoked true true true true M = refl
revoked true true true false M = refl
revoked true true false true M = refl
revoked true true false false M = refl
revoked true false true true M = refl
revoked true false true false M = refl
revoked true false false true M = refl
revoked true false false false M = refl
revoked false e true true M = refl
revoked false e true false M = refl
revoked false e false true M = refl
revoked false e false false M = refl

pub stands_front :
    (test revokes : Setting → Bool) (before : Bool) (setting : Option Setting) (more : List Setting) →
    stands_with test revokes before (cons_option setting more)
    ≡ stands_with test revokes (stands_after test revokes before setting) more
stands_front test revokes before None more = refl
stands_front test revokes before (Some setting) more =
    revoked before (revokes setting) (test setting) (list_any revokes more) (stands test revokes more)

-- after the last line
pub stands_last : (test revokes : Setting → Bool) (before : Bool) → stands_with test revokes before [] ≡ before
stands_last test revokes true = refl
stands_last test revokes false = refl

-- one more setting, if there is one
pub kept_front :
    (kept : List Setting) (setting : Option Setting) (more : List Setting) →
    kept ++ cons_option setting more ≡ (kept ++ cons_option setting []) ++ more
kept_front kept None more = ap (λ all. all ++ more) (sym (append-nil kept))
kept_front kept (Some setting) more = sym (append_assoc kept (setting ∷ []) more)

-- the last value of the random delay in settings that is a time span, or the given one
abbrev pub delay_with : List ℕ → List Setting → List ℕ
delay_with before settings = last_or before (map (λ setting. setting.1) (filter is_delay settings))

delay_if :
    (is : Bool) (before : List ℕ) (setting : Setting) (more : List Setting) →
    last_or before (map (λ s. s.1) (if is then setting ∷ filter is_delay more else filter is_delay more))
    ≡ delay_with (if is then setting.1 else before) more
delay_if true before setting more = refl
delay_if false before setting more = refl

pub delay_front :
    (before : List ℕ) (setting : Option Setting) (more : List Setting) →
    delay_with before (cons_option setting more) ≡ delay_with (delay_after before setting) more
delay_front before None more = refl
delay_front before (Some setting) more = delay_if (is_delay setting) before setting more
