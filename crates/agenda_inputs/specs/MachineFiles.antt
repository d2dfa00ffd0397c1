-- The files of a machine, whose tree is below a root (agenda).
use Rattle.std.specs.Prelude.{ℕ, Bool, true, false, List, Option, None, Some}
use Rattle.plan_tree.specs.Contents.{contents_of}
use Rattle.agenda_inputs.specs.Files.{Held, KnownFile, unknown}
use Rattle.agenda_inputs.specs.MachineZone.{KnownTree}

-- a file of the tree, if it has this one, or else that of the running machine
abbrev pub file_or : Option (List ℕ) → KnownFile → KnownFile
file_or None running = running
file_or (Some bytes) running = record { bytes = Some bytes; is_readable = true }

-- nothing is known of a file if the tree isn't known
abbrev pub file_if : (is_known : Bool) → KnownFile → KnownFile
file_if true file = file
file_if false file = unknown

-- the regular files of the tree that can be read, and beside them those of the running machine
abbrev pub machine_files : (running : Held) → KnownTree → Held
machine_files running tree path = file_if tree.is_known (file_or (contents_of tree.held path) (running path))
