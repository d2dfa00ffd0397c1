-- The names of timers and of their jobs, and the order of timers.
use Rattle.std.specs.Prelude.{ℕ, Bool, not, ◌&&◌, ◌==◌, if◌then◌else◌, List, ◌++◌, filter, map, Option, None, Some}
use Rattle.std.specs.List.{list_any}
use Rattle.std.specs.Str.{byte}
use Rattle.plan_timers.specs.declared.reports.Why.{Why}
use Rattle.plan_timers.specs.declared.reports.Why.TheVariants.{Escape}
use Rattle.plan_tree.specs.Order.{sorted}

-- whether a name has an `@`, as those of templates and instances have (systemd.unit(5))
abbrev pub has_at : List ℕ → Bool
has_at name = list_any (λ b. b == byte "@") name

-- names in byte order, but those without `@` first (agenda)
abbrev pub in_timer_order : List (List ℕ) → List (List ℕ)
in_timer_order names = filter (λ name. not (has_at name)) (sorted names) ++ filter has_at (sorted names)

-- `-` for `@`
abbrev pub dashed : ℕ → ℕ
dashed b = if b == byte "@" then byte "-" else b

-- the name of a timer's job: its own with `-` for each `@` (agenda)
abbrev pub job_of : List ℕ → List ℕ
job_of name = map dashed name

-- why a timer is no source by its name: what `\` means in the name of an instance isn't read (agenda)
abbrev pub name_fault : List ℕ → Option Why
name_fault name =
    if has_at name && list_any (λ b. b == byte "\\") name then Some Escape else None
