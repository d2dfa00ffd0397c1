-- The accuracy of timers that set none, in microseconds (systemd-system.conf(5), `DefaultTimerAccuracySec=`).
use Rattle.std.specs.Prelude.{ℕ, Bool, false, if◌then◌else◌, List, [], ◌∷◌, filter, Option, None, Some, codes, unwrap_or}
use Rattle.std.specs.List.{cons_option}
use Rattle.std.specs.Str.{bytes_eq}
use Rattle.plan_spans.specs.Spans.{time_span}
use Rattle.plan_texts.specs.WholeLines.{trimmed}
use Rattle.plan_tree.specs.declared.tree.Node.{Node}
use Rattle.plan_tree.specs.Links.{end_of}
use Rattle.plan_tree.specs.Tree.{Held}
use Rattle.plan_units.specs.declared.merging.Entry.{Entry}
use Rattle.plan_units.specs.declared.paths.UnitDir.{UnitDir}
use Rattle.plan_units.specs.DropIns.{is_drop_in}
use Rattle.plan_units.specs.Entries.{entries_among}
use Rattle.plan_units.specs.SearchPath.{dir_by}
use Rattle.plan_units.specs.Settings.{lines_at, section_name, setting_of}

-- ---- one file

-- whether the lines after a line are in a section `[Manager]`; names of sections are compared exactly (systemd.syntax(7))
abbrev pub inside_after : Bool → Option (List ℕ) → Bool
inside_after inside None = inside
inside_after inside (Some section) = bytes_eq section (codes "Manager")

-- a value that is no time span is ignored (systemd 252)
abbrev pub accuracy_after_setting : ℕ → List ℕ × List ℕ → ℕ
accuracy_after_setting before setting =
    if bytes_eq setting.0 (codes "DefaultTimerAccuracySec") then unwrap_or (time_span setting.1) before else before

abbrev pub accuracy_by : ℕ → Option (List ℕ × List ℕ) → ℕ
accuracy_by before None = before
accuracy_by before (Some setting) = accuracy_after_setting before setting

abbrev pub accuracy_after_line : ℕ → (inside : Bool) → List ℕ → ℕ
accuracy_after_line before inside text = if inside then accuracy_by before (setting_of text) else before

-- the last setting counts; `inside` says whether the first line is in a section `[Manager]`
abbrev pub accuracy_after_lines : ℕ → (inside : Bool) → List (ℕ × List ℕ) → ℕ
accuracy_after_lines before inside [] = before
accuracy_after_lines before inside (line ∷ more) =
    accuracy_after_lines (accuracy_after_line before inside (trimmed line.1)) (inside_after inside (section_name (trimmed line.1))) more

abbrev pub accuracy_after_file : Held → ℕ → List ℕ → ℕ
accuracy_after_file held before path = accuracy_after_lines before false (lines_at held path)

-- ---- all files

abbrev pub accuracy_after_files : Held → ℕ → List Entry → ℕ
accuracy_after_files held before [] = before
accuracy_after_files held before (file ∷ more) = accuracy_after_files held (accuracy_after_file held before file.real) more

-- the directories of drop-ins (systemd-system.conf(5))
abbrev pub conf_paths : List (List ℕ)
conf_paths =
    codes "etc/systemd/system.conf.d" ∷ codes "run/systemd/system.conf.d" ∷ codes "usr/local/lib/systemd/system.conf.d"
    ∷ codes "usr/lib/systemd/system.conf.d" ∷ []

-- those of some paths that lead to directories
abbrev pub conf_dirs : (List ℕ → Node) → List (List ℕ) → List UnitDir
conf_dirs node [] = []
conf_dirs node (path ∷ more) = cons_option (dir_by node path (end_of node path)) (conf_dirs node more)

-- the drop-ins in the order of their names; of those of one name the first counts (systemd-system.conf(5))
abbrev pub conf_files : Held → List Entry
conf_files held = filter is_drop_in (entries_among held (conf_dirs held.node conf_paths))

-- system.conf is read first, then its drop-ins; without a setting it is one minute (systemd-system.conf(5))
abbrev pub default_accuracy : Held → ℕ
default_accuracy held =
    accuracy_after_files held (accuracy_after_file held 60000000 (codes "etc/systemd/system.conf")) (conf_files held)
