-- The policy that the values of `--deny` and `--allow` make. All of it is our choice (agenda).
use Rattle.std.specs.Prelude.{◌≡◌, ⊤, ℕ, Bool, true, false, if◌then◌else◌, List, [], ◌∷◌, ◌++◌, codes, find, Option, Some, None, Result, Ok, Err}
use Rattle.std.specs.List.{cons_option, list_any}
use Rattle.std.specs.Str.{str_eq_ignore_ascii_case}
use Rattle.plan_texts.specs.Steps.{◌>>=◌}
use Rattle.agenda_codes.specs.declared.Code.{Code}
use Rattle.agenda_codes.specs.Codes.{code_named, name_of}
use Rattle.agenda_codes.specs.Warned.{is_of_warning}
use Rattle.agenda_policy.specs.declared.policy.Policy.{Policy}
use Rattle.agenda_policy.specs.declared.reading.CodeOption.{CodeOption}
use Rattle.agenda_policy.specs.declared.reading.CodeOption.TheVariants.{Deny, Allow}
use Rattle.agenda_policy.specs.declared.reading.PolicyFault.{PolicyFault}
use Rattle.agenda_policy.specs.declared.reading.PolicyFault.TheVariants.{NoMemory, Usage}
use Rattle.agenda_policy.specs.Nearest.{nearest}
use Rattle.agenda_policy.specs.Policy.{has_code}

-- what values mean, or the text of a usage error
abbrev pub ValueReading : Type 0 → Type 0
ValueReading A = Result A (List ℕ)

-- ---- the texts of usage errors

-- an option as it is written
abbrev pub option_name : CodeOption → List ℕ
option_name Deny = codes "--deny"
option_name Allow = codes "--allow"

-- how the text of a usage error ends
abbrev pub usage_end : List ℕ
usage_end = codes "\n\nFor more information, try '--help'.\n"

-- a value isn't a code
unfoldable pub unknown_text : CodeOption → (value : List ℕ) → List ℕ
unknown_text option value =
    codes "error: invalid value '" ++ (value ++ (codes "' for '" ++ (option_name option
    ++ (codes " <CODE>'\n\n  tip: a similar code exists: '" ++ (name_of (nearest value) ++ (codes "'" ++ usage_end))))))

-- a value of `--allow` is the code of an error
unfoldable pub not_warning_text : (value : List ℕ) → List ℕ
not_warning_text value =
    codes "error: invalid value '" ++ (value
    ++ (codes "' for '--allow <CODE>': an error can't be allowed, only a warning" ++ usage_end))

-- a code is both denied and allowed
unfoldable pub both_text : Code → List ℕ
both_text code =
    codes "error: the argument '--deny " ++ (name_of code
    ++ (codes "' cannot be used with '--allow " ++ (name_of code ++ (codes "'" ++ usage_end))))

-- ---- values

-- whether a value of `--deny` is `all`; upper and lower case are the same
abbrev pub is_all : (value : List ℕ) → Bool
is_all value = str_eq_ignore_ascii_case value (codes "all")

-- whether a value of an option stands for all warnings: `all` of `--deny`
abbrev pub is_all_of : CodeOption → (value : List ℕ) → Bool
is_all_of Deny value = is_all value
is_all_of Allow value = false

-- whether an option may name a code: `--allow` only that of a warning
abbrev pub may_name : CodeOption → Code → Bool
may_name Deny code = true
may_name Allow code = is_of_warning code

-- a code that a value of an option names, if the option may name it
abbrev pub code_if : CodeOption → (value : List ℕ) → Option Code → ValueReading (Option Code)
code_if option value None = Err (unknown_text option value)
code_if option value (Some code) = if may_name option code then Ok (Some code) else Err (not_warning_text value)

-- the code that a value of an option names; None if it stands for all warnings
abbrev pub code_reading : CodeOption → (value : List ℕ) → ValueReading (Option Code)
code_reading option value = if is_all_of option value then Ok None else code_if option value (code_named value)

-- the codes that values of an option name, in order; the first invalid value decides
abbrev pub codes_reading : CodeOption → (values : List (List ℕ)) → ValueReading (List Code)
codes_reading option [] = Ok []
codes_reading option (value ∷ more) = do
  code ← code_reading option value
  codes ← codes_reading option more
  Ok (cons_option code codes)

-- ---- the policy

-- a policy, unless it both denies and allows a code: the first of those that it allows decides
abbrev pub policy_if : (both : Option Code) → Policy → ValueReading Policy
policy_if None policy = Ok policy
policy_if (Some code) policy = Err (both_text code)

abbrev pub policy_unless : Policy → ValueReading Policy
policy_unless policy = policy_if (find (has_code policy.denied) policy.allowed) policy

-- the policy of the values of `--deny` and `--allow`; those of `--deny` are read first
unfoldable pub policy_reading : (deny allow : List (List ℕ)) → ValueReading Policy
policy_reading deny allow = do
  denied ← codes_reading Deny deny
  allowed ← codes_reading Allow allow
  policy_unless (record { denies_all = list_any is_all deny; denied = denied; allowed = allowed })

-- a result is what the definition says, or an allocation failed
abbrev pub Reads : {X : Type 0} → Result X PolicyFault → ValueReading X → Type 0
Reads (Ok x) reading = reading ≡ Ok x
Reads (Err NoMemory) reading = ⊤
Reads (Err (Usage text)) reading = reading ≡ Err text
