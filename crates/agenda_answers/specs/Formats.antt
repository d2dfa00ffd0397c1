-- How the answer to a request is written. All of it is our choice (agenda).
use Rattle.std.specs.Prelude.{◌≡◌, Bool, true, false, if◌then◌else◌, ℕ, List, codes, Option, None, Some, Ok, Err, unwrap_or}
use Rattle.plan_clock.specs.declared.row.Change.{Change}
use Rattle.plan_rules.specs.declared.NamedZone.{NamedZone}
use Rattle.plan_write.specs.declared.Format.{Format}
use Rattle.agenda_arguments.specs.Tables.{is_table}
use Rattle.agenda_arguments.specs.declared.FormatRequest.{FormatRequest}
use Rattle.agenda_commands.specs.declared.Form.{Form}
use Rattle.agenda_commands.specs.declared.Form.TheVariants.{Lines, Table}
use Rattle.agenda_table.specs.declared.Frame.{Frame}
use Rattle.agenda_faults.specs.declared.faults.Failure.TheVariants.{Run}
use Rattle.agenda_faults.specs.declared.faults.RunFault.TheVariants.{NoMemory}
use Rattle.agenda_answers.specs.declared.formats.FormRequest.{FormRequest}
use Rattle.agenda_inputs.specs.Steps.{Step}

-- the given zone, with its text as its name; without a text it is called `unnamed`
abbrev pub zone_of : (given : Option (List ℕ)) → (unnamed : List ℕ) → (clock : List Change) → NamedZone
zone_of given unnamed clock = record { name = unwrap_or given unnamed; clock = clock }

-- the zone by whose clock times are shown: none unless that is requested
abbrev pub local_zone : (local : Bool) → (given : Option (List ℕ)) → (unnamed : List ℕ) → (clock : List Change) → Option NamedZone
local_zone true given unnamed clock = Some (zone_of given unnamed clock)
local_zone false given unnamed clock = None

-- the format of a request whose zone has this clock
abbrev pub format_of : FormatRequest → (given : Option (List ℕ)) → (unnamed : List ℕ) → (clock : List Change) → Format
format_of request given unnamed clock = record { json = request.json; local = local_zone request.local given unnamed clock }

-- the format is made; an allocation can only fail if local times are requested
abbrev pub format_made : FormatRequest → (given : Option (List ℕ)) → (unnamed : List ℕ) → (clock : List Change) → Step Format
format_made request given unnamed clock (Ok format) = format ≡ format_of request given unnamed clock
format_made request given unnamed clock (Err failure) = (failure ≡ Run NoMemory) × (request.local ≡ true)

-- the name of UTC
abbrev pub utc_name : List ℕ
utc_name = codes "UTC"

-- what a zone without a name is called
abbrev pub unnamed_zone : (is_of_file : Bool) → List ℕ
unnamed_zone is_of_file = if is_of_file then codes "local" else utc_name

-- the form of an answer about a machine: a table or lines
abbrev pub form_of :
    FormRequest → (origin : Option ℕ) → Frame → (given : Option (List ℕ)) → (unnamed : List ℕ) → (clock : List Change) → Form
form_of request origin frame given unnamed clock =
    if is_table request.table frame.terminal
    then Table (record { zone = zone_of given unnamed clock; origin = origin; frame = frame })
    else Lines (format_of request.format given unnamed clock)

-- the form is made, unless an allocation fails
abbrev pub form_made :
    FormRequest → (origin : Option ℕ) → Frame → (given : Option (List ℕ)) → (unnamed : List ℕ) → (clock : List Change) → Step Form
form_made request origin frame given unnamed clock (Ok form) = form ≡ form_of request origin frame given unnamed clock
form_made request origin frame given unnamed clock (Err failure) = failure ≡ Run NoMemory
