use Rattle.std.proofs.Common.{◌≡◌, Ok, take}
use Rattle.agenda_inputs.specs.Opened.{followed_by, source_files}
use Rattle.agenda_inputs.specs.Sources.{tries_of}
use Rattle.agenda_inputs.proofs.sources.read_sources.Given as goal

-- the paths so far were tried, and their files opened
abbrev pub invariant-loop-path : goal.invariant-loop-path
invariant-loop-path g l = record {
  so_far : tries_of l.keep_going (g.F.Files.held l.fn.files) (take l.path-index l.given)
      (Ok (record { sources = l.sources.items; paths = l.paths; unread = l.unread }));
  same : g.F.Files.held l.files ≡ g.F.Files.held l.fn.files;
  opened : g.F.Files.opened l.files ≡ followed_by (g.F.Files.opened l.fn.files) (source_files (take l.path-index l.given));
}
