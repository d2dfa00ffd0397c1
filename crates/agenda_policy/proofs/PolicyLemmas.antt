-- Without a denied warning, there is an error among the findings that are reported exactly if there is one among all.
use Rattle.std.proofs.Common.{◌≡◌, Bool, true, false, ◌&&◌, ◌||◌, List, [], ◌∷◌, Option, Some, None, refl, ap, sym, ◌∙◌}
use Rattle.plan_check.specs.declared.FindingKind.{FindingKind}
use Rattle.plan_check.specs.declared.FindingKind.TheVariants.{Rejected, SameName, Full, Warned, Denied}
use Rattle.plan_check.specs.declared.Warning.{Warning}
use Rattle.plan_check.specs.Finding.{is_warning}
use Rattle.agenda_sources.specs.declared.Found.{Found}
use Rattle.agenda_sources.specs.declared.Source.{Source}
use Rattle.agenda_sources.specs.Findings.{is_all_clean}
use Rattle.std.specs.List.{cons_option}
use Rattle.agenda_policy.specs.declared.policy.Policy.{Policy}
use Rattle.agenda_policy.specs.Judged.{is_left_out, judged, judged_as, judged_kind}
use Rattle.agenda_policy.specs.Policy.{has_warning, is_denied}

-- no warning is denied
denies_none : (policy : Policy) (warning : Warning) → policy.denies_all ≡ false → policy.denied ≡ [] → is_denied policy warning ≡ false
denies_none policy warning all named = rw (all, named) refl

-- a finding before others, by whether it is a warning
one_first :
    (allowed denied : Bool) (warning : Warning) (one : Found) (rest : List Found) → denied ≡ false → is_warning one.finding.kind ≡ true →
    is_all_clean (cons_option (judged_as allowed denied warning one) rest) ≡ is_all_clean rest
one_first true denied warning one rest undenied is = refl
one_first false true warning one rest undenied is = cc
one_first false false warning one rest undenied is = rw is refl

kind_first :
    (policy : Policy) (sources : List Source) (one : Found) (kind : FindingKind) (rest found : List Found) → policy.denies_all ≡ false →
    policy.denied ≡ [] → one.finding.kind ≡ kind → is_all_clean rest ≡ is_all_clean found →
    is_all_clean (cons_option (judged_kind policy sources one kind) rest) ≡ (is_warning kind && is_all_clean found)
kind_first policy sources one (Warned warning) rest found all named is same =
    one_first (is_left_out policy sources one warning) (is_denied policy warning) warning one rest (denies_none policy warning all named)
    (ap is_warning is) ∙ same
kind_first policy sources one (Rejected cause) rest found all named is same = rw is refl
kind_first policy sources one SameName rest found all named is same = rw is refl
kind_first policy sources one Full rest found all named is same = rw is refl
kind_first policy sources one (Denied warning) rest found all named is same = rw is refl

pub need_no_policy :
    (policy : Policy) (sources : List Source) (found : List Found) → policy.denies_all ≡ false → policy.denied ≡ [] →
    is_all_clean (judged policy sources found) ≡ is_all_clean found
need_no_policy policy sources [] all named = refl
need_no_policy policy sources (one ∷ more) all named =
    kind_first policy sources one one.finding.kind (judged policy sources more) more all named refl
    (need_no_policy policy sources more all named)
