-- The findings that are reported under a policy (agenda).
use Rattle.std.specs.Prelude.{◌≡◌, ⊤, ℕ, Bool, false, true, ◌||◌, List, Option, Some, None}
use Rattle.std.specs.List.{filter_map, slice_get}
use Rattle.std.specs.Option.{option_map, option_map_or}
use Rattle.plan_check.specs.declared.Warning.{Warning}
use Rattle.plan_check.specs.declared.FindingKind.{FindingKind}
use Rattle.plan_check.specs.declared.FindingKind.TheVariants.{Warned, Denied}
use Rattle.agenda_sources.specs.declared.Found.{Found}
use Rattle.agenda_sources.specs.declared.Source.{Source}
use Rattle.agenda_policy.specs.declared.policy.Policy.{Policy}
use Rattle.agenda_policy.specs.declared.judging.Judgement.{Judgement}
use Rattle.agenda_policy.specs.declared.judging.Read.{Read}
use Rattle.agenda_policy.specs.Comments.{is_allowed_on, lines_of}
use Rattle.agenda_policy.specs.Policy.{is_allowed, is_denied}

-- a finding as an error: the warning that was denied
abbrev pub denied_at : Warning → Found → Found
denied_at warning one = record one { finding = record one.finding { kind = Denied warning } }

-- a finding that is a warning, if it isn't allowed: an error if it is denied, and otherwise as it is
abbrev pub judged_as : (allowed denied : Bool) → Warning → Found → Option Found
judged_as true denied warning one = None
judged_as false true warning one = Some (denied_at warning one)
judged_as false false warning one = Some one

-- whether comments in a source allow a warning on the line with a number; without a source they don't
abbrev pub allowed_in : Option Source → (number : ℕ) → Warning → Bool
allowed_in source number warning = option_map_or (λ source. is_allowed_on (lines_of source) number warning) source false

-- whether a warning is left out: the policy allows it, or a comment in its source does
abbrev pub is_left_out : Policy → List Source → Found → Warning → Bool
is_left_out policy sources one warning =
    is_allowed policy warning || allowed_in (slice_get sources one.place) one.finding.line warning

-- a finding of a kind, if it is reported; an error always is
abbrev pub judged_kind : Policy → List Source → Found → FindingKind → Option Found
judged_kind policy sources one (Warned warning) =
    judged_as (is_left_out policy sources one warning) (is_denied policy warning) warning one
judged_kind policy sources one other = Some one

-- a finding, if it is reported
abbrev pub judged_one : Policy → List Source → Found → Option Found
judged_one policy sources one = judged_kind policy sources one one.finding.kind

-- the findings that are reported
abbrev pub judged : Policy → List Source → List Found → List Found
judged policy sources found = filter_map (judged_one policy sources) found

-- ---- values of the code

-- comments that were read are those of the source at their place
abbrev pub IsOf : List Source → Option Read → Type 0
IsOf sources None = ⊤
IsOf sources (Some read) = option_map lines_of (slice_get sources read.place) ≡ Some read.comments

-- they are those of the source at this place; there are none if there is no source
abbrev pub IsAt : List Source → (place : ℕ) → Option Read → Type 0
IsAt sources place read = IsOf sources read × (option_map (λ read. read.comments) read ≡ option_map lines_of (slice_get sources place))

-- what becomes of a finding, with comments that were read
abbrev pub IsJudged : Policy → List Source → Found → Judgement → Type 0
IsJudged policy sources one judgement = (judgement.kept ≡ judged_one policy sources one) × IsOf sources judgement.last

-- the same of a finding that is this warning
abbrev pub IsWarningJudged : Policy → List Source → Found → Warning → Judgement → Type 0
IsWarningJudged policy sources one warning judgement =
    (judgement.kept ≡ judged_as (is_left_out policy sources one warning) (is_denied policy warning) warning one)
    × IsOf sources judgement.last
