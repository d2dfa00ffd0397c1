-- Which warnings are denied, and which are allowed (agenda).
use Rattle.std.specs.Prelude.{ℕ, Bool, false, ◌||◌, List, []}
use Rattle.std.specs.List.{list_any}
use Rattle.std.specs.Str.{bytes_eq}
use Rattle.agenda_codes.specs.declared.Code.{Code}
use Rattle.agenda_codes.specs.Codes.{name_of}
use Rattle.plan_check.specs.declared.Warning.{Warning}
use Rattle.plan_check.specs.Finding.{warning_name}
use Rattle.agenda_policy.specs.declared.policy.Policy.{Policy}

-- whether one of these codes has this name
abbrev pub has_name : List Code → (name : List ℕ) → Bool
has_name all name = list_any (λ code. bytes_eq (name_of code) name) all

-- whether this code is among these
abbrev pub has_code : List Code → Code → Bool
has_code all code = has_name all (name_of code)

-- whether one of these codes is that of a warning, which has the warning's name
abbrev pub has_warning : List Code → Warning → Bool
has_warning all warning = has_name all (warning_name warning)

-- whether a warning is denied: all are, or this one by its code
abbrev pub is_denied : Policy → Warning → Bool
is_denied policy warning = policy.denies_all || has_warning policy.denied warning

-- whether a warning is allowed
abbrev pub is_allowed : Policy → Warning → Bool
is_allowed policy warning = has_warning policy.allowed warning

-- the policy without options: nothing is denied or allowed
abbrev pub neutral : Policy
neutral = record { denies_all = false; denied = []; allowed = [] }
