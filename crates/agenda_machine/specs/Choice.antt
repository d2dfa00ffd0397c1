-- Which jobs of a machine an answer is about, by patterns of their names. All of it is our choice (agenda).
use Rattle.std.specs.Prelude.{ℕ, Bool, true, false, not, ◌&&◌, ◌||◌, ◌==◌, if◌then◌else◌, List, [], ◌∷◌, ◌++◌, Option, count_by, filter, find, length, map, nat_eq}
use Rattle.std.specs.Char.{is_ascii_digit}
use Rattle.std.specs.List.{cons_option, flat_map, list_all, list_any, starts_with}
use Rattle.std.specs.Option.{option_map_or}
use Rattle.agenda_patterns.specs.Pattern.{fits}
use Rattle.agenda_sources.specs.Name.{file_name}
use Rattle.plan_machine.specs.Source.{SourceParts}
use Rattle.plan_machine.specs.declared.NotPlanned.{NotPlanned}
use Rattle.plan_machine.specs.declared.Skipped.{Skipped}
use Rattle.plan_machine.specs.declared.Unplanned.{Unplanned}
use Rattle.plan_machine.specs.declared.Unplanned.TheVariants.{UnitIdle, UnitMasked, UnitMissing}
use Rattle.plan_rules.specs.Job.{JobParts}
use Rattle.plan_rules.specs.Jobs.{without}
use Rattle.plan_timers.specs.Reports.{is_unknown_skip}
use Rattle.agenda_machine.specs.declared.unknown.Name.{Name}
use Rattle.agenda_machine.specs.declared.unknown.Unknown.{Unknown}
use Rattle.agenda_machine.specs.JobFiles.{cut_name, label_of}

-- ---- what is left out

-- the label of a job: of a crontab's job what its name has before the number of its line, and of a timer its name
abbrev pub label_in : (name : List ℕ) → List ℕ
label_in name = option_map_or (λ cut. if list_all is_ascii_digit cut.1 then cut.0 else name) (cut_name name) name

-- the job of a timer or a crontab with this label is left out: by its name or its label, or if others alone are asked for
abbrev pub is_excluded : (except only : List (List ℕ)) → (label name : List ℕ) → Bool
is_excluded except only label name =
    let fits_job : List ℕ → Bool = λ pattern. fits pattern label || fits pattern name in
    list_any fits_job except || (not (length only == 0) && not (list_any fits_job only))

-- the jobs that are left
abbrev pub left_jobs : (except only : List (List ℕ)) → List JobParts → List JobParts
left_jobs except only jobs =
    without (filter (λ name. is_excluded except only (label_in name) name) (map (λ job. job.name) jobs)) jobs

-- how many unknown things are left. One is left out by each of its names, or by its path if it has none: a pattern for paths begins as
-- they do, with `front`. If others alone are asked for, a whole crontab stays
abbrev pub left_unknown : (front : List ℕ) → (except only : List (List ℕ)) → List Unknown → ℕ
left_unknown front except only unknown =
    count_by (λ one. not (if length one.names == 0
    then list_any (λ pattern. starts_with nat_eq pattern front && fits pattern one.path) except
    else list_all (λ name. option_map_or (is_excluded except only name.label) name.job (is_excluded except [] name.label name.label))
    one.names)) unknown

-- ---- what has a name

-- a timer that isn't planned since its unit starts nothing is no job of a source, but has a name
abbrev pub lacks_unit : Unplanned → Bool
lacks_unit (UnitMissing unit) = true
lacks_unit (UnitMasked unit) = true
lacks_unit (UnitIdle unit) = true
lacks_unit other = false

-- the names of a machine with these sources and jobs, where this is skipped, isn't planned or is unknown: of each job, timer and crontab,
-- and of the file of what is off
abbrev pub names_of_machine :
    List SourceParts → List Skipped → List NotPlanned → List JobParts → List Unknown → List (List ℕ)
names_of_machine sources skipped unplanned jobs unknown =
    map (λ job. job.name) jobs ++ map (λ one. label_of one.kind one.name) sources
    ++ flat_map (λ one. if lacks_unit one.why then file_name one.path ∷ [] else []) unplanned
    ++ flat_map (λ one. if is_unknown_skip one.why then [] else file_name one.path ∷ []) skipped
    ++ flat_map (λ one. flat_map (λ name. cons_option name.job []) one.names) unknown

-- the first pattern of `--only` that fits none of these names
abbrev pub unchosen : (names patterns : List (List ℕ)) → Option (List ℕ)
unchosen names patterns = find (λ pattern. not (list_any (fits pattern) names)) patterns

-- the first pattern of `--except` that fits none of these names, and that isn't for paths
abbrev pub unexcepted : (front : List ℕ) → (names patterns : List (List ℕ)) → Option (List ℕ)
unexcepted front names patterns =
    find (λ pattern. not (starts_with nat_eq pattern front) && not (list_any (fits pattern) names)) patterns
