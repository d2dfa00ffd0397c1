use Rattle.std.proofs.Common.{◌≡◌, Ok, take}
use Rattle.agenda_inputs.specs.EventZones.{found_zones}
use Rattle.agenda_inputs.specs.Opened.{files_of_names, followed_by}
use Rattle.agenda_inputs.proofs.event_zones.find_zones.Given as goal

-- the zones with the names so far were looked for, and their files opened
abbrev pub invariant-loop-place : goal.invariant-loop-place
invariant-loop-place g l = record {
  so_far : found_zones (g.F.Files.held l.fn.files) l.given l.clock (take l.place l.names) (Ok l.known.items);
  same : g.F.Files.held l.files ≡ g.F.Files.held l.fn.files;
  opened : g.F.Files.opened l.files ≡ followed_by (g.F.Files.opened l.fn.files) (files_of_names l.given (take l.place l.names));
}
