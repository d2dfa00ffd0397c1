use Rattle.std.proofs.Common.{◌≡◌, ◌++◌, [], ◌∷◌, List, ℕ, drop, if◌then◌else◌, map}
use Rattle.std.specs.List.{cons_option, flat_map}
use Rattle.agenda_machine.specs.Choice.{lacks_unit}
use Rattle.agenda_machine.specs.JobFiles.{label_of}
use Rattle.agenda_machine.specs.declared.unknown.Name.{Name}
use Rattle.agenda_machine.specs.declared.unknown.Unknown.{Unknown}
use Rattle.agenda_machine.proofs.choice.names_of_machine.Given as goal
use Rattle.agenda_sources.specs.Name.{file_name}
use Rattle.plan_machine.specs.Source.{SourceParts}
use Rattle.plan_machine.specs.declared.NotPlanned.{NotPlanned}
use Rattle.plan_machine.specs.declared.Skipped.{Skipped}
use Rattle.plan_timers.specs.Reports.{is_unknown_skip}

-- in each loop the names so far, with those of what is left, are all

abbrev pub invariant-loop-source : goal.invariant-loop-source
invariant-loop-source l =
    let f : SourceParts → List ℕ = λ one. label_of one.kind one.name in
    l.names.items ++ map f (drop l.source-index l.source-items) ≡ l.initial.names.items ++ map f l.source-items

abbrev pub invariant-loop-job : goal.invariant-loop-job
invariant-loop-job l =
    let f : NotPlanned → List (List ℕ) = λ one. if lacks_unit one.why then file_name one.path ∷ [] else [] in
    l.names.items ++ flat_map f (drop l.job-index l.job-items) ≡ l.initial.names.items ++ flat_map f l.job-items

abbrev pub invariant-loop-file : goal.invariant-loop-file
invariant-loop-file l =
    let f : Skipped → List (List ℕ) = λ one. if is_unknown_skip one.why then [] else file_name one.path ∷ [] in
    l.names.items ++ flat_map f (drop l.file-index l.file-items) ≡ l.initial.names.items ++ flat_map f l.file-items

abbrev pub invariant-loop-one : goal.invariant-loop-one
invariant-loop-one l =
    let f : Unknown → List (List ℕ) = λ one. flat_map (λ name. cons_option name.job []) one.names in
    l.names.items ++ flat_map f (drop l.one-index l.unknown) ≡ l.initial.names.items ++ flat_map f l.unknown

abbrev pub invariant-loop-name : goal.invariant-loop-name
invariant-loop-name l =
    let f : Name → List (List ℕ) = λ name. cons_option name.job [] in
    l.names.items ++ flat_map f (drop l.name-index l.name-items) ≡ l.initial.names.items ++ flat_map f l.name-items
