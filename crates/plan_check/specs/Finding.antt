-- Findings of lines and of whole files (agenda).
use Rattle.std.specs.Prelude.{ℕ, Bool, true, false, not, List, [], ◌∷◌, codes, filter, Option, Some, None}
use Rattle.std.specs.List.{list_all}
use Rattle.plan_rules.specs.declared.line_fault.LineCause.{LineCause}
use Rattle.plan_check.specs.declared.finding.Finding.{Finding}
use Rattle.plan_check.specs.declared.finding.Warning.{Warning}
use Rattle.plan_check.specs.declared.finding.Warning.TheVariants as warning
use Rattle.plan_check.specs.declared.finding.FindingKind.{FindingKind}
use Rattle.plan_check.specs.declared.finding.FindingKind.TheVariants.{Rejected, SameName, Full, Warned, Denied}

-- ---- names

-- the name of a warning
abbrev pub warning_name : Warning → List ℕ
warning_name warning.NeverStarts = codes "NeverStarts"
warning_name warning.EitherDay = codes "EitherDay"
warning_name warning.NoEvents = codes "NoEvents"
warning_name warning.Percent = codes "Percent"
warning_name warning.CarriageReturn = codes "CarriageReturn"
warning_name warning.ZoneSetting = codes "ZoneSetting"
warning_name warning.SkippedStarts = codes "SkippedStarts"
warning_name warning.UnknownKey = codes "UnknownKey"
warning_name warning.BadBoolean = codes "BadBoolean"
warning_name warning.BadDelay = codes "BadDelay"
warning_name warning.Monotonic = codes "Monotonic"
warning_name warning.Delayed = codes "Delayed"
warning_name warning.SystemdRejects = codes "SystemdRejects"
warning_name warning.RangeFromEnd = codes "RangeFromEnd"
warning_name warning.MayStop = codes "MayStop"
warning_name warning.Merged = codes "Merged"
warning_name warning.CronIgnores = codes "CronIgnores"
warning_name warning.CronDiffers = codes "CronDiffers"
warning_name warning.NoUser = codes "NoUser"
warning_name warning.TimerRejected = codes "TimerRejected"
warning_name warning.UnitIgnored = codes "UnitIgnored"
warning_name warning.LineEnd = codes "LineEnd"

-- ---- one finding

-- a finding of the line with a number, from 1, or of the whole file, which is 0, with the text that its message quotes, if any
abbrev pub finding_at : ℕ → FindingKind → (quote : Option (List ℕ)) → Finding
finding_at line kind quote = record { line = line; kind = kind; quote = quote; detail = None }

-- the same, with what its message ends with
abbrev pub detailed_at : ℕ → FindingKind → (quote : Option (List ℕ)) → (detail : List ℕ) → Finding
detailed_at line kind quote detail = record { line = line; kind = kind; quote = quote; detail = Some detail }

-- an error, with the text that its message quotes, and what the message ends with, if there is any
abbrev pub error_at : ℕ → LineCause → (quote detail : Option (List ℕ)) → Finding
error_at line cause quote detail = record { line = line; kind = Rejected cause; quote = quote; detail = detail }

-- an error of a whole file quotes nothing
abbrev pub rejected_at : ℕ → LineCause → Finding
rejected_at line cause = finding_at line (Rejected cause) None

-- a finding, if this is true
abbrev pub found_if : Bool → ℕ → FindingKind → (quote : Option (List ℕ)) → List Finding
found_if true line kind quote = finding_at line kind quote ∷ []
found_if false line kind quote = []

-- a finding, if there is something that its message ends with
abbrev pub found_with : (detail : Option (List ℕ)) → ℕ → FindingKind → (quote : Option (List ℕ)) → List Finding
found_with None line kind quote = []
found_with (Some detail) line kind quote = detailed_at line kind quote detail ∷ []

-- a finding whose message ends with a text, if this is true
abbrev pub detailed_if : Bool → ℕ → FindingKind → (detail : List ℕ) → List Finding
detailed_if true line kind detail = detailed_at line kind None detail ∷ []
detailed_if false line kind detail = []

-- ---- errors

-- the first element of a list
abbrev pub first_of : {A : Type 0} → List A → Option A
first_of [] = None
first_of (x ∷ xs) = Some x

-- whether a finding is a warning, so that nothing is rejected
abbrev pub is_warning : FindingKind → Bool
is_warning (Rejected cause) = false
is_warning SameName = false
is_warning Full = false
is_warning (Warned warning) = true
is_warning (Denied warning) = false

-- whether nothing is rejected
abbrev pub is_clean : List Finding → Bool
is_clean found = list_all (λ finding. is_warning finding.kind) found

-- the errors among findings
abbrev pub errors_of : List Finding → List Finding
errors_of found = filter (λ finding. not (is_warning finding.kind)) found
