-- Which timers of a machine are sources, and why the others aren't.
use Rattle.std.specs.Prelude.{◌≡◌, ℕ, Bool, true, false, not, ◌&&◌, if◌then◌else◌, List, [], ◌∷◌, ◌++◌, filter, Option, None, Some, Ok, Err, Result}
use Rattle.std.specs.List.{list_any}
use Rattle.std.specs.Str.{bytes_eq}
use Rattle.plan_parts.specs.Files.{FileBytes}
use Rattle.plan_timers.specs.declared.reports.Skipped.{Skipped}
use Rattle.plan_timers.specs.declared.reports.Why.{Why}
use Rattle.plan_timers.specs.declared.reports.Why.TheVariants.{NameTaken, NoSuchTimer}
use Rattle.plan_timers.specs.declared.timer.NoFile.{NoFile}
use Rattle.plan_timers.specs.declared.timer.NoFile.TheVariants as no_file
use Rattle.plan_timers.specs.declared.timers.TimersFound.{TimersFound}
use Rattle.plan_timers.specs.Dirs.{skipped_dirs, skipped_drop_in_dirs}
use Rattle.plan_timers.specs.Files.{files_among, found_file, skipped_among}
use Rattle.plan_timers.specs.Links.{link_dirs}
use Rattle.plan_timers.specs.Names.{in_timer_order, job_of, name_fault}
use Rattle.plan_timers.specs.ReadDirs.{skipped_links}
use Rattle.plan_timers.specs.Source.{TimerParts}
use Rattle.plan_timers.specs.Unwanted.{unwanted_timers}
use Rattle.plan_timers.specs.Wishes.{KnownUnits, wish_of}
use Rattle.plan_tree.specs.declared.tree.Node.{Node}
use Rattle.plan_tree.specs.Order.{sorted}
use Rattle.plan_tree.specs.Tree.{Held}
use Rattle.plan_units.specs.declared.merging.Entry.{Entry}
use Rattle.plan_units.specs.declared.paths.UnitDir.{UnitDir}
use Rattle.plan_units.specs.declared.unit.Unit.{Unit}
use Rattle.plan_units.specs.DropIns.{drop_in_entries}
use Rattle.plan_units.specs.Entries.{entries_among}
use Rattle.plan_units.specs.Reach.{AreReached, with_new}
use Rattle.plan_units.specs.Timers.{first_unit, is_timer}
use Rattle.plan_units.specs.Unit.{unit_of}
use Rattle.plan_units.specs.Wants.{wants_of}

-- ---- what is found

-- the timers that are sources, and what is skipped, both in their order
pub record FoundTimers : Type 0 where
  pub sources : List TimerParts
  pub skipped : List Skipped

abbrev pub found_view : TimersFound → FoundTimers
found_view found = record { sources = found.sources.items; skipped = found.skipped.items }

abbrev pub only_skipped : List Skipped → FoundTimers
only_skipped skipped = record { sources = []; skipped = skipped }

abbrev pub with_skipped : FoundTimers → Skipped → FoundTimers
with_skipped found more = record { sources = found.sources; skipped = found.skipped ++ more ∷ [] }

-- what enables a timer is skipped
abbrev pub with_wish : Held → KnownUnits → FoundTimers → List ℕ → Why → FoundTimers
with_wish held units found name why = with_skipped found (record { path = wish_of held units name; why = why })

-- one source more, and what else is skipped
abbrev pub with_source : FoundTimers → TimerParts → List Skipped → FoundTimers
with_source found source more = record { sources = found.sources ++ source ∷ []; skipped = found.skipped ++ more }

-- a timer is a source with its file and those of its drop-ins that can be read; the other drop-ins are skipped
abbrev pub with_file : Held → KnownUnits → FoundTimers → List ℕ → List ℕ → FileBytes → FoundTimers
with_file held units found name job file =
    let drop_ins = drop_in_entries held units.dirs name in
    with_source found (record { unit = name; name = job; file = file; drop_ins = files_among held units.most drop_ins })
    (skipped_among held units.most drop_ins)

-- ---- one timer

-- an alias is the unit that it names (systemd.unit(5))
abbrev pub is_alias : List ℕ → Option Unit → Bool
is_alias name None = false
is_alias name (Some unit) = not (bytes_eq unit.name name)

abbrev pub file_or_skipped : Result FileBytes Skipped → Result FileBytes NoFile
file_or_skipped (Ok file) = Ok file
file_or_skipped (Err skipped) = Err (no_file.File skipped)

-- the file of a unit
abbrev pub file_by_unit : Held → (most : ℕ) → Option Unit → Result FileBytes NoFile
file_by_unit held most None = Err (no_file.Wish NoSuchTimer)
file_by_unit held most (Some unit) = file_or_skipped (found_file held most unit.file.path unit.file.real)

-- the file of a timer, unless its name says that it is no source
abbrev pub file_by_fault : Held → (most : ℕ) → Option Why → Option Unit → Result FileBytes NoFile
file_by_fault held most (Some why) unit = Err (no_file.Wish why)
file_by_fault held most None unit = file_by_unit held most unit

abbrev pub timer_file : Held → (most : ℕ) → List ℕ → Option Unit → Result FileBytes NoFile
timer_file held most name unit = file_by_fault held most (name_fault name) unit

-- a source has this name
abbrev pub is_taken : List TimerParts → List ℕ → Bool
is_taken sources job = list_any (λ source. bytes_eq source.name job) sources

-- a timer by the name of its job; of two timers whose jobs have one name the first is a source (agenda)
abbrev pub with_job : Held → KnownUnits → FoundTimers → List ℕ → List ℕ → Result FileBytes NoFile → FoundTimers
with_job held units found name job (Err (no_file.Wish why)) = with_wish held units found name why
with_job held units found name job (Err (no_file.File skipped)) = with_skipped found skipped
with_job held units found name job (Ok file) =
    if is_taken found.sources job then with_wish held units found name NameTaken else with_file held units found name job file

-- a timer, unless its name is an alias
abbrev pub with_unit : Held → KnownUnits → FoundTimers → List ℕ → Option Unit → FoundTimers
with_unit held units found name unit =
    if is_alias name unit then found else with_job held units found name (job_of name) (timer_file held units.most name unit)

-- what is found, and one more timer
abbrev pub with_timer : Held → KnownUnits → FoundTimers → List ℕ → FoundTimers
with_timer held units found name = with_unit held units found name (unit_of held.node units.dirs name)

-- ---- all timers

abbrev pub with_timers : Held → KnownUnits → FoundTimers → List (List ℕ) → FoundTimers
with_timers held units found [] = found
with_timers held units found (name ∷ more) = with_timers held units (with_timer held units found name) more

-- a timer has a file; that of a template isn't one
abbrev pub is_some : Option Unit → Bool
is_some None = false
is_some (Some unit) = true

abbrev pub has_file : (List ℕ → Node) → List UnitDir → List ℕ → Bool
has_file node dirs name = is_timer name && is_some (unit_of node dirs name)

abbrev pub names_with_file : (List ℕ → Node) → List UnitDir → List Entry → List (List ℕ)
names_with_file node dirs [] = []
names_with_file node dirs (entry ∷ more) =
    if has_file node dirs entry.name then entry.name ∷ names_with_file node dirs more else names_with_file node dirs more

-- the timers that have a file in the directories of units
abbrev pub file_timers : Held → List UnitDir → List (List ℕ)
file_timers held dirs = names_with_file held.node dirs (entries_among held dirs)

-- the timers that the boot reaches, and with `all` also those that have a file
abbrev pub timer_names : Held → List UnitDir → (all : Bool) → List (List ℕ) → List (List ℕ)
timer_names held dirs false reached = filter is_timer reached
timer_names held dirs true reached = with_new (filter is_timer reached) (file_timers held dirs)

-- ---- all that is found

-- what is skipped of the directories of units, and of those of links
abbrev pub skipped_of_dirs : Held → KnownUnits → List Skipped
skipped_of_dirs held units = skipped_dirs held units.dirs ++ skipped_links held units.dirs units.reached units.links

abbrev pub with_more : FoundTimers → List Skipped → FoundTimers
with_more found more = record { sources = found.sources; skipped = found.skipped ++ more }

-- what is found of timers, and then what is skipped of the directories of their drop-ins
abbrev pub with_drop_in_dirs : Held → KnownUnits → FoundTimers → FoundTimers
with_drop_in_dirs held units found = with_more found (skipped_drop_in_dirs held found.sources units.dirs)

-- what is found of the timers of these units, after what is skipped of directories; without `all`, those that only other units
-- want come last
abbrev pub timers_of_units : Held → KnownUnits → (all : Bool) → FoundTimers
timers_of_units held units all =
    let names = in_timer_order (timer_names held units.dirs all units.reached) in
    let found = with_drop_in_dirs held units (with_timers held units (only_skipped (skipped_of_dirs held units)) names) in
    if all then found else with_more found (unwanted_timers held units)

-- what is found of the timers of a machine whose boot reaches these names
abbrev pub timers_among : Held → List UnitDir → (all : Bool) → (most : ℕ) → List (List ℕ) → FoundTimers
timers_among held dirs all most reached =
    timers_of_units held (record { dirs = dirs; links = link_dirs held dirs; reached = sorted reached; most = most }) all

-- what is found of the timers of a machine: the boot reaches what is reached from its first unit (systemd.special(7))
abbrev pub AreMachineTimers : Held → List UnitDir → (all : Bool) → (most : ℕ) → FoundTimers → Type 0
AreMachineTimers held dirs all most found =
    (reached : List (List ℕ)) × AreReached (wants_of held dirs) first_unit reached × (found ≡ timers_among held dirs all most reached)
