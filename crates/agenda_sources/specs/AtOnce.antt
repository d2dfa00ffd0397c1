-- The errors of sources that are found at once, before any memory is requested: a bad file name, too many
-- bytes, and bytes that are not UTF-8 (agenda).
use Rattle.std.specs.Prelude.{ℕ, List, [], ◌∷◌, Option, None, option_map}
use Rattle.plan_rules.specs.LineFaults.{of_whole}
use Rattle.agenda_sources.specs.declared.sources.Source.{Source}
use Rattle.agenda_sources.specs.declared.fault.SourceFault.{SourceFault}
use Rattle.agenda_sources.specs.Faults.{fault_at}
use Rattle.plan_check.specs.Files.{cause_at_once}

-- the error of the source at a place, if it has one that is found at once
abbrev pub source_at_once : ℕ → Source → Option SourceFault
source_at_once place source =
    option_map (λ cause. fault_at place (of_whole cause)) (cause_at_once source.kind source.name source.bytes)

-- the error of the sources that is found at once: only the first source can have one
abbrev pub fault_at_once : List Source → Option SourceFault
fault_at_once [] = None
fault_at_once (first ∷ more) = source_at_once 0 first
