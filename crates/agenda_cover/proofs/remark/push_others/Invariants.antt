use Rattle.std.proofs.Common.{◌≡◌, ◌++◌, codes, string_bytes, take}
use Rattle.std.specs.List.{flat_map}
use Rattle.agenda_cover.specs.Remark.{job_text}
use Rattle.agenda_cover.proofs.remark.push_others.Given as goal

-- the line has the jobs so far
abbrev pub invariant-loop-number : goal.invariant-loop-number
invariant-loop-number l =
    string_bytes l.line
    ≡ string_bytes l.initial.line ++ flat_map (λ other. codes ", " ++ job_text l.jobs other.0 other.1) (take l.number-index l.others)
