-- What was said so far, as a set of texts.
use Rattle.std.proofs.Common.{◌≡◌, ℕ, Bool, true, false, ◌||◌, if◌then◌else◌, List, [], ◌∷◌, ◌++◌, not, append_assoc, refl, ap, subst, sym, ◌∙◌}
use Rattle.std.proofs.lemmas.List.Folds.{list_any-append}
use Rattle.std.proofs.lemmas.Slice.Eq.{bytes_eq-Decides}
use Rattle.std.specs.List.{list_any}
use Rattle.std.specs.Str.{bytes_eq}
use Rattle.plan_rules.specs.Names.{with_name}
use Rattle.plan_timers.specs.declared.reports.Skipped.{Skipped}
use Rattle.plan_machine.specs.Machine.{is_said, new_after, said, with_new}

none_more : (b : Bool) → b ≡ (b || (false || false))
none_more true = refl
none_more false = refl

-- a text that is among others is found where they are
found_there :
    (text name : List ℕ) (names : List (List ℕ)) → list_any (bytes_eq name) names ≡ true →
    list_any (bytes_eq text) names ≡ (list_any (bytes_eq text) names || (bytes_eq text name || false))
found_there text name names there = by_test (bytes_eq text name) refl
  where
    by_test :
        (e : Bool) → bytes_eq text name ≡ e →
        list_any (bytes_eq text) names ≡ (list_any (bytes_eq text) names || (e || false))
    by_test false is = none_more (list_any (bytes_eq text) names)
    by_test true is =
        let same : text ≡ name = (bytes_eq-Decides text name).0 is in
        let found : list_any (bytes_eq text) names ≡ true = subst (λ t. list_any (bytes_eq t) names ≡ true) (sym same) there in
        rw found refl

found_again :
    (text name : List ℕ) (names : List (List ℕ)) →
    list_any (bytes_eq text) (with_name names name) ≡ (list_any (bytes_eq text) names || (bytes_eq text name || false))
found_again text name names = by_test (list_any (bytes_eq name) names) refl
  where
    by_test :
        (b : Bool) → list_any (bytes_eq name) names ≡ b →
        list_any (bytes_eq text) (if b then names else names ++ name ∷ [])
        ≡ (list_any (bytes_eq text) names || (bytes_eq text name || false))
    by_test false is = list_any-append (bytes_eq text) names (name ∷ [])
    by_test true is = found_there text name names is

-- one thing more is said
pub said_more :
    (names : List (List ℕ)) (before : List Skipped) (one : Skipped) →
    ((text : List ℕ) → list_any (bytes_eq text) names ≡ is_said before text) → (text : List ℕ) →
    list_any (bytes_eq text) (with_name names (said one)) ≡ is_said (before ++ one ∷ []) text
said_more names before one told text =
    found_again text (said one) names
    ∙ ap (λ found. found || (bytes_eq text (said one) || false)) (told text)
    ∙ sym (list_any-append (λ other. bytes_eq text (said other)) before (one ∷ []))

-- one thing more is kept if nothing of it was said
new_by :
    (b : Bool) (once more whole : List Skipped) (one : Skipped) → once ++ (if b then more else one ∷ more) ≡ whole →
    with_new once one (not b) ++ more ≡ whole
new_by true once more whole one is = is
new_by false once more whole one is = append_assoc once (one ∷ []) more ∙ is

pub new_more :
    (is_new : Bool) (once before more whole : List Skipped) (one : Skipped) → is_new ≡ not (is_said before (said one)) →
    once ++ new_after before (one ∷ more) ≡ whole → with_new once one is_new ++ new_after (before ++ one ∷ []) more ≡ whole
new_more is_new once before more whole one new is =
    ap (λ b. with_new once one b ++ new_after (before ++ one ∷ []) more) new
    ∙ new_by (is_said before (said one)) once (new_after (before ++ one ∷ []) more) whole one is
