-- Whether a service has a command to start, or may do without one (systemd.service(5); the checks are those of systemd 252).
use Rattle.std.specs.Prelude.{ℕ, Bool, true, false, not, ◌&&◌, ◌||◌, ◌==◌, nat_eq, if◌then◌else◌, List, [], ◌∷◌, length, Option, None, Some, codes, unwrap_or}
use Rattle.std.specs.List.{ends_with, list_any}
use Rattle.std.specs.Str.{bytes_eq}
use Rattle.plan_services.specs.declared.commands.Commands.{Commands}
use Rattle.plan_services.specs.declared.commands.Section.{Section}
use Rattle.plan_services.specs.declared.commands.Section.TheVariants as section
use Rattle.plan_services.specs.declared.commands.ServiceType.{ServiceType}
use Rattle.plan_services.specs.declared.commands.ServiceType.TheVariants as type
use Rattle.plan_spans.specs.Booleans.{boolean}
use Rattle.plan_texts.specs.WholeLines.{trimmed}
use Rattle.plan_tree.specs.Tree.{Held}
use Rattle.plan_units.specs.declared.merging.Entry.{Entry}
use Rattle.plan_units.specs.declared.paths.UnitDir.{UnitDir}
use Rattle.plan_units.specs.declared.unit.Unit.{Unit}
use Rattle.plan_units.specs.DropIns.{drop_ins}
use Rattle.plan_units.specs.Settings.{lines_at, section_name, setting_of}

-- ---- values

-- the types of a service other than oneshot (systemd.service(5), `Type=`)
abbrev pub other_types : List (List ℕ)
other_types =
    codes "simple" ∷ codes "exec" ∷ codes "forking" ∷ codes "dbus" ∷ codes "notify" ∷ codes "idle" ∷ []

-- another value is ignored
abbrev pub type_after : ServiceType → List ℕ → ServiceType
type_after before value =
    if bytes_eq value (codes "oneshot") then type.Oneshot else
    if list_any (bytes_eq value) other_types then type.Other else
    before

-- the actions of a unit that succeeds (systemd.unit(5), `SuccessAction=`)
abbrev pub actions : List (List ℕ)
actions =
    codes "reboot" ∷ codes "reboot-force" ∷ codes "reboot-immediate" ∷ codes "poweroff" ∷ codes "poweroff-force"
    ∷ codes "poweroff-immediate" ∷ codes "exit" ∷ codes "exit-force" ∷ []

abbrev pub action_after : Bool → List ℕ → Bool
action_after before value =
    if bytes_eq value (codes "none") then false else
    if list_any (bytes_eq value) actions then true else
    before

-- a value that isn't a boolean is ignored (systemd.syntax(7))
abbrev pub truth_after : Bool → List ℕ → Bool
truth_after before value = unwrap_or (boolean value) before

-- ---- one line

-- the section after a line; names of sections are compared exactly (systemd.syntax(7))
abbrev pub section_of : List ℕ → Section
section_of name =
    if bytes_eq name (codes "Unit") then section.Unit else
    if bytes_eq name (codes "Service") then section.Service else
    section.Other

abbrev pub section_after : Section → Option (List ℕ) → Section
section_after before None = before
section_after before (Some name) = section_of name

-- an empty value of a command takes all those before it away (systemd.service(5), `ExecStart=`)
abbrev pub has_value : List ℕ → Bool
has_value value = not (length value == 0)

abbrev pub after_service_setting : Commands → List ℕ × List ℕ → Commands
after_service_setting before setting =
    if bytes_eq setting.0 (codes "ExecStart") then record before { starts = has_value setting.1 } else
    if bytes_eq setting.0 (codes "ExecStop") then record before { stops = has_value setting.1 } else
    if bytes_eq setting.0 (codes "RemainAfterExit") then record before { remains = truth_after before.remains setting.1 } else
    if bytes_eq setting.0 (codes "BusName") then record before { has_bus = has_value setting.1 } else
    if bytes_eq setting.0 (codes "Type") then record before { service_type = type_after before.service_type setting.1 } else
    before

abbrev pub after_unit_setting : Commands → List ℕ × List ℕ → Commands
after_unit_setting before setting =
    if bytes_eq setting.0 (codes "SuccessAction") then record before { acts = action_after before.acts setting.1 } else before

abbrev pub after_setting : Commands → Section → List ℕ × List ℕ → Commands
after_setting before section.Unit setting = after_unit_setting before setting
after_setting before section.Service setting = after_service_setting before setting
after_setting before section.Other setting = before

abbrev pub after_line_by : Commands → Section → Option (List ℕ × List ℕ) → Commands
after_line_by before inside None = before
after_line_by before inside (Some setting) = after_setting before inside setting

-- ---- all lines

-- what whole lines say, after what was said before them; the first line is in this section
abbrev pub after_lines : Commands → Section → List (ℕ × List ℕ) → Commands
after_lines before inside [] = before
after_lines before inside (line ∷ more) =
    after_lines (after_line_by before inside (setting_of (trimmed line.1))) (section_after inside (section_name (trimmed line.1))) more

abbrev pub after_file : Held → Commands → List ℕ → Commands
after_file held before path = after_lines before section.Other (lines_at held path)

abbrev pub after_files : Held → Commands → List Entry → Commands
after_files held before [] = before
after_files held before (file ∷ more) = after_files held (after_file held before file.real) more

-- ---- a service

abbrev pub no_commands : Commands
no_commands = record {
  starts = false;
  stops = false;
  remains = false;
  has_bus = false;
  acts = false;
  service_type = type.Unset;
}

-- a service without a type and without `ExecStart=` is oneshot, unless it has a name on the bus (systemd 252)
abbrev pub is_oneshot : ServiceType → (has_bus : Bool) → Bool
is_oneshot type.Oneshot has_bus = true
is_oneshot type.Other has_bus = false
is_oneshot type.Unset has_bus = not has_bus

-- a service can start with `ExecStart=`. If it is oneshot, it may do without: if it remains after it exits and has `ExecStop=`, or has
-- `SuccessAction=` (systemd 252)
abbrev pub can_start : Commands → Bool
can_start commands =
    commands.starts
    || (is_oneshot commands.service_type commands.has_bus && ((commands.stops && commands.remains) || commands.acts))

-- what a unit's file and its drop-ins say, in the order in which they are read
unfoldable pub commands_of : Held → List UnitDir → Unit → Commands
commands_of held dirs unit =
    after_files held (after_file held no_commands unit.file.real) (drop_ins held dirs unit.name)

-- the unit is a service that can't start. Of one whose file can't be read, is too large or isn't UTF-8, that isn't known (agenda)
abbrev pub is_idle : Held → List UnitDir → Unit → Bool
is_idle held dirs unit =
    ends_with nat_eq unit.name (codes ".service")
    && (not (length (lines_at held unit.file.real) == 0) && not (can_start (commands_of held dirs unit)))
