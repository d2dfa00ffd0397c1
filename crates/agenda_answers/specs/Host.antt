-- The machine that the program runs on. All of it is our choice (agenda).
use Rattle.std.specs.Prelude.{◌≡◌, ◌≤◌, ℕ, Bool, List, decimal}
use Rattle.agenda_table.specs.declared.Frame.{Frame}
use Rattle.plan_tree.specs.Tree.{Held}
use Rattle.agenda_inputs.specs.MachineZone.{KnownTree}

-- what contracts know of it: its files and directories, the time of its clock, in seconds since 1970, and where answers are shown
pub record KnownHost : Type 0 where
  pub tree : KnownTree
  pub time : ℕ
  pub frame : Frame

-- the same, by its parts
abbrev pub host_of : (is_known : Bool) → Held → (time : ℕ) → Frame → KnownHost
host_of is_known held time frame = record { tree = record { is_known = is_known; held = held }; time = time; frame = frame }

-- this is the number of columns that the value of COLUMNS gives: a number from 20 to 999,999 in decimal
abbrev pub IsColumns : (text : List ℕ) → (columns : ℕ) → Type 0
IsColumns text columns = (text ≡ decimal columns) × (20 ≤ columns) × (columns ≤ 999999)
