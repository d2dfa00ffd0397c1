-- Which files can be read, and why others are skipped.
use Rattle.std.specs.Prelude.{ℕ, if◌then◌else◌, List, [], ◌∷◌, take, Option, None, Some, Ok, Err, Result}
use Rattle.std.specs.Option.{option_map}
use Rattle.plan_parts.specs.Files.{FileBytes}
use Rattle.plan_timers.specs.declared.reports.Skipped.{Skipped}
use Rattle.plan_timers.specs.declared.reports.Why.TheVariants.{Masked, NotReadable}
use Rattle.plan_tree.specs.Contents.{contents_of}
use Rattle.plan_tree.specs.Tree.{Held}
use Rattle.plan_units.specs.declared.merging.Entry.{Entry}
use Rattle.plan_units.specs.Masks.{is_mask}

-- ---- one file

-- a file has the path where it was found
abbrev pub file_by : List ℕ → Option (List ℕ) → Result FileBytes Skipped
file_by path None = Err (record { path = path; why = NotReadable })
file_by path (Some bytes) = Ok (record { path = path; bytes = bytes })

-- the file that is found at a path and read by another one, with its first `most` bytes, if it is no mask (systemd.unit(5)) and a
-- regular file that can be read (agenda)
abbrev pub found_file : Held → (most : ℕ) → List ℕ → List ℕ → Result FileBytes Skipped
found_file held most path real =
    if is_mask held.node real then Err (record { path = path; why = Masked }) else
    file_by path (option_map (take most) (contents_of held real))

-- ---- several files

abbrev pub with_read : Result FileBytes Skipped → List FileBytes → List FileBytes
with_read (Ok file) more = file ∷ more
with_read (Err skipped) more = more

-- the files among some entries
abbrev pub files_among : Held → (most : ℕ) → List Entry → List FileBytes
files_among held most [] = []
files_among held most (entry ∷ more) = with_read (found_file held most entry.path entry.real) (files_among held most more)

abbrev pub with_other : Result FileBytes Skipped → List Skipped → List Skipped
with_other (Ok file) more = more
with_other (Err skipped) more = skipped ∷ more

-- what is skipped of some entries
abbrev pub skipped_among : Held → (most : ℕ) → List Entry → List Skipped
skipped_among held most [] = []
skipped_among held most (entry ∷ more) = with_other (found_file held most entry.path entry.real) (skipped_among held most more)
