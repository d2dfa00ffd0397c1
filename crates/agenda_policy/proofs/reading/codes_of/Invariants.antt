use Rattle.std.proofs.Common.{◌≡◌, ◌++◌, drop, map, Ok}
use Rattle.plan_texts.specs.Steps.{◌>>=◌}
use Rattle.agenda_policy.specs.Reading.{codes_reading}
use Rattle.agenda_policy.proofs.reading.codes_of.Given as goal

-- the codes so far, with those of the values that are left
abbrev pub invariant-loop-value : goal.invariant-loop-value
invariant-loop-value l =
    codes_reading l.option (map (λ value. value.now) l.values)
    ≡ (codes_reading l.option (map (λ value. value.now) (drop l.value-index l.values)) >>= λ more. Ok (l.codes ++ more))
