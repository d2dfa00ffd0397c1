-- The sentence of a description is read back.
use Rattle.std.proofs.Common.{◌≡◌, ℕ, Bool, true, false, not, ◌&&◌, ◌==◌, if◌then◌else◌, List, [], ◌∷◌, ◌++◌, Option, Some, None, refl, ap, sym, subst, ◌∙◌, append_assoc, append-nil, arith}
use Rattle.std.specs.Prelude.{codes}
use Rattle.std.specs.List.{list_all}
use Rattle.std.specs.Str.{byte, bytes_eq}
use Rattle.std.proofs.lemmas.Bool.Decides.{nat_tests}
use Rattle.plan_words.specs.declared.names.TimeUnit.{TimeUnit}
use Rattle.plan_words.specs.Words.{Every, Comma, Word, Key, Number, OneUnit, ManyUnits, is_keyword, spelled, text_of_words, word_text}
use Rattle.plan_words.specs.Tree.{Steps, Items, Cycle, Among, Time, Listed, WholeDay, Windows, Minutes, Seconds, Schedule, OnReboot, Scheduled}
use Rattle.plan_words.specs.Existing.{is_void, lacks}
use Rattle.plan_words.specs.Sentence.{time_words, days_words, reboot_text, sentence_of, void_text, zone_text}
use Rattle.plan_words.specs.Pieces.{words_in, notes_cut, words_text, without_last, before_blank, zone_of_note}
use Rattle.plan_words.specs.ReadTime.{front, past}
use Rattle.plan_words.specs.Reading.{joined_parts, after_time, schedule_by, schedule_of_words, description_by, if_said, description_in}
use Rattle.plan_words.specs.WellFormed.{IsSchedule, IsZone}
use Rattle.plan_words.specs.Laws.{Differ, ReadsBack}
use Rattle.plan_words.proofs.TimeLemmas.{time_again}
use Rattle.plan_words.proofs.DayLemmas.{days_again, after_time_of}
use Rattle.plan_words.proofs.WordLemmas.{words_again, words_no_bracket, HasNoBracket}

-- the words of a schedule are read back
schedule_again :
    (lacks : Bool) (s : Schedule) → IsSchedule s →
    schedule_of_words s.zone (time_words s.time ++ days_words lacks s.days s.months s.years) ≡ s
schedule_again lacks s well =
    let days = days_words lacks s.days s.months s.years in
    ap (λ ws. schedule_of_words s.zone (time_words s.time ++ ws)) (sym (append-nil days))
    ∙ ap (after_time s.zone) (time_again s.time (days ++ []) well.time (after_time_of lacks s.days s.months s.years))
    ∙ ap (joined_parts s.zone s.time) (days_again lacks s.days s.months s.years well.days well.months well.years)

-- the first word of a text is no comma, and not that of `@reboot`
pub record Begins (words : List Word) : Type 0 where
  pub is : words ≡ front words ∷ past words
  pub no_comma : is_keyword Comma (front words) ≡ false
  pub apart : (rest : List ℕ) → bytes_eq (word_text (front words) ++ rest) reboot_text ≡ false

every_begins :
    (b : Bool) (n : ℕ) (unit : TimeUnit) (rest : List Word) →
    Begins ((if b then Key Every ∷ OneUnit unit ∷ [] else Key Every ∷ Number n ∷ ManyUnits unit ∷ []) ++ rest)
every_begins true n unit rest = record { is = refl; no_comma = refl; apart = λ text. refl }
every_begins false n unit rest = record { is = refl; no_comma = refl; apart = λ text. refl }

every_before :
    (b : Bool) (n : ℕ) (unit : TimeUnit) (more rest : List Word) →
    Begins (((if b then Key Every ∷ OneUnit unit ∷ [] else Key Every ∷ Number n ∷ ManyUnits unit ∷ []) ++ more) ++ rest)
every_before true n unit more rest = record { is = refl; no_comma = refl; apart = λ text. refl }
every_before false n unit more rest = record { is = refl; no_comma = refl; apart = λ text. refl }

every_steps :
    (b : Bool) (n : ℕ) (unit : TimeUnit) (steps more rest : List Word) →
    Begins ((((if b then Key Every ∷ OneUnit unit ∷ [] else Key Every ∷ Number n ∷ ManyUnits unit ∷ []) ++ steps) ++ more) ++ rest)
every_steps true n unit steps more rest = record { is = refl; no_comma = refl; apart = λ text. refl }
every_steps false n unit steps more rest = record { is = refl; no_comma = refl; apart = λ text. refl }

time_begins : (time : Time) (rest : List Word) → Begins (time_words time ++ rest)
time_begins (Listed times) rest = record { is = refl; no_comma = refl; apart = λ text. refl }
time_begins (WholeDay count unit) rest = every_begins (count == 1) count unit rest
time_begins (Windows count unit windows) rest = every_before (count == 1) count unit _ rest
time_begins (Minutes (Cycle n) hours) rest = every_before (n == 1) n _ _ rest
time_begins (Minutes (Among (Steps first last step)) hours) rest = every_steps (step == 1) step _ _ _ rest
time_begins (Minutes (Among (Items spans)) hours) rest = record { is = refl; no_comma = refl; apart = λ text. refl }
time_begins (Seconds (Cycle n) minutes hours) rest = every_before (n == 1) n _ _ rest
time_begins (Seconds (Among (Steps first last step)) minutes hours) rest = every_steps (step == 1) step _ _ _ rest
time_begins (Seconds (Among (Items spans)) minutes hours) rest = record { is = refl; no_comma = refl; apart = λ text. refl }

-- words of which the first is no comma are read back
begun_again : (words : List Word) → Begins words → words_in (text_of_words words) ≡ words
begun_again words begins =
    ap (λ ws. words_in (text_of_words ws)) begins.is
    ∙ words_again (front words) (past words) begins.no_comma
    ∙ sym begins.is

same_bytes : (text : List ℕ) → bytes_eq text text ≡ true
same_bytes [] = refl
same_bytes (b ∷ bs) = let here : (b == b) ≡ true = grind (arith, nat_tests) in rw (here, bytes_eq) (same_bytes bs)

-- ---- the notes

last_dropped : (text : List ℕ) (b : ℕ) → without_last (text ++ b ∷ []) ≡ text
last_dropped [] b = refl
last_dropped (x ∷ []) b = refl
last_dropped (x ∷ y ∷ more) b = ap (λ bs. x ∷ bs) (last_dropped (y ∷ more) b)

-- a zone in brackets is not the start of the other note
and_false : (a b : Bool) → b ≡ false → (a && b) ≡ false
and_false true b is = is
and_false false b is = refl

zone_apart : (name : List ℕ) → bytes_eq (codes "(" ++ (name ++ codes ")")) (codes "(no") ≡ false
zone_apart [] = refl
zone_apart (x ∷ []) = and_false (x == 110) false refl
zone_apart (x ∷ y ∷ []) = and_false (x == 110) ((y == 111) && false) (and_false (y == 111) false refl)
zone_apart (x ∷ y ∷ z ∷ more) = and_false (x == 110) ((y == 111) && false) (and_false (y == 111) false refl)

zone_inside : (name : List ℕ) → zone_of_note (codes "(" ++ (name ++ codes ")")) ≡ Some name
zone_inside name = rw (zone_apart name, zone_of_note) (ap Some (last_dropped name 41))

no_blank :
    (b : ℕ) (bs : List ℕ) → list_all (λ b. not (b == byte " ")) (b ∷ bs) ≡ true →
    ((b == byte " ") ≡ false) × (list_all (λ b. not (b == byte " ")) bs ≡ true)
no_blank b bs is = go (b == byte " ") is
  where
    go : (t : Bool) → (not t && list_all (λ b. not (b == byte " ")) bs) ≡ true → (t ≡ false) × (list_all (λ b. not (b == byte " ")) bs ≡ true)
    go true is = absurd (cc)
    go false is = (refl, is)

-- a name is cut off where the other note follows, or at the end
name_cut :
    (name : List ℕ) (b : Bool) → list_all (λ b. not (b == byte " ")) name ≡ true →
    before_blank ((name ++ codes ")") ++ void_text b) ≡ name ++ codes ")"
name_cut [] true is = refl
name_cut [] false is = refl
name_cut (x ∷ xs) b is =
    let parts = no_blank x xs is in
    rw (parts.0, before_blank) (ap (λ bs. x ∷ bs) (name_cut xs b parts.1))

-- a text is cut into its words and its notes
pub record AreCut (text : List ℕ) (zone : Option (List ℕ)) (cut : List ℕ × List ℕ) : Type 0 where
  pub words : words_text cut ≡ text
  pub named : zone_of_note (before_blank cut.1) ≡ zone

notes_begin :
    (text more : List ℕ) → HasNoBracket text → notes_cut (text ++ (codes " (" ++ more)) ≡ (text ++ codes " ", codes "(" ++ more)
notes_begin text more is = is (codes " (" ++ more)

notes_again :
    (text : List ℕ) (zone : Option (List ℕ)) (b : Bool) → HasNoBracket text → IsZone zone →
    AreCut text zone (notes_cut (text ++ (zone_text zone ++ void_text b)))
notes_again text None false is fine =
    subst (AreCut text None) (sym (is [])) (record { words = append-nil text; named = refl })
notes_again text None true is fine =
    subst (AreCut text None) (sym (notes_begin text (codes "no such day)") is)) (record { words = last_dropped text 32; named = refl })
notes_again text (Some name) b is fine =
    subst (AreCut text (Some name)) (sym (notes_begin text ((name ++ codes ")") ++ void_text b) is))
    (record {
      words = last_dropped text 32;
      named = ap (λ bs. zone_of_note (40 ∷ bs)) (name_cut name b fine) ∙ zone_inside name;
    })

-- ---- the whole

begun_no_bracket : (words : List Word) → Begins words → HasNoBracket (text_of_words words)
begun_no_bracket words begins =
    subst (λ ws. HasNoBracket (text_of_words ws)) (sym begins.is) (words_no_bracket (front words) (past words) begins.no_comma)

begun_apart : (words : List Word) (notes : List ℕ) → Begins words → bytes_eq (text_of_words words ++ notes) reboot_text ≡ false
begun_apart words notes begins =
    ap (λ ws. bytes_eq (text_of_words ws ++ notes) reboot_text) begins.is
    ∙ ap (λ text. bytes_eq text reboot_text) (append_assoc (word_text (front words)) (spelled (past words)) notes)
    ∙ begins.apart (spelled (past words) ++ notes)

read_cut :
    (s : Schedule) (words : List Word) (cut : List ℕ × List ℕ) → Begins words → AreCut (text_of_words words) s.zone cut →
    schedule_by cut ≡ schedule_of_words s.zone words
read_cut s words cut begins are =
    ap (λ zone. schedule_of_words zone (words_in (words_text cut))) are.named
    ∙ ap (λ text. schedule_of_words s.zone (words_in text)) are.words
    ∙ ap (schedule_of_words s.zone) (begun_again words begins)

-- a sentence by its parts is read back
said_by :
    (lacks is_void : Bool) (s : Schedule) → IsSchedule s →
    description_by (text_of_words (time_words s.time ++ days_words lacks s.days s.months s.years) ++ (zone_text s.zone ++ void_text is_void))
    ≡ Scheduled s
said_by lacks is_void s well =
    let words = time_words s.time ++ days_words lacks s.days s.months s.years in
    let notes = zone_text s.zone ++ void_text is_void in
    let begins = time_begins s.time (days_words lacks s.days s.months s.years) in
    let are = notes_again (text_of_words words) s.zone is_void (begun_no_bracket words begins) well.zone in
    rw (begun_apart words notes begins, description_by)
    (ap Scheduled (read_cut s words (notes_cut (text_of_words words ++ notes)) begins are ∙ schedule_again lacks s well))

pub reads_back : ReadsBack
unfolding description_in
reads_back OnReboot well = refl
reads_back (Scheduled s) well =
    let sentence = sentence_of (Scheduled s) in
    ap (if_said sentence) (said_by (lacks s) (is_void s) s well) ∙ rw (same_bytes sentence, if_said) refl

pub differ : Differ
differ d e well good same =
    let both : Some d ≡ Some e = sym (reads_back d well) ∙ ap description_in same ∙ reads_back e good in
    cc
