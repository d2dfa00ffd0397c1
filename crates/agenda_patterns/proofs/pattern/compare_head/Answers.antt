use Rattle.std.proofs.Common.{arith, ◌+◌, ◌≡◌, ◌<◌, true, length, ◌==◌, ◌||◌, get_or}
use Rattle.std.proofs.lemmas.Bool.Decides.{nat_tests}
use Rattle.std.proofs.lemmas.Grind.{common_steps}
use Rattle.std.proofs.lemmas.List.{take_rest}
use Rattle.std.specs.Str.{byte}
use Rattle.agenda_patterns.proofs.PatternLemmas.{goes_on, passed_more}
use Rattle.agenda_patterns.proofs.pattern.compare_head.Goals as goal

pub returns-then-byte-eq42 : goal.returns-then-byte-eq42
returns-then-byte-eq42 c =
    let pattern = c.args.pattern.now in
    let name = c.args.name.now in
    let at = c.loop-at.at in
    rw (take_rest pattern (at + 1), take_rest name at)
    (goes_on pattern name at c.loop-at-test.true c.if-byte-eq42.true c.loop-at.invariant)

pub loop-at-preserved : goal.loop-at-preserved
loop-at-preserved c =
    let pattern = c.args.pattern.now in
    let name = c.args.name.now in
    let at = c.loop-at.at in
    let within : at < length name = omega (arith, c.loop-at.invariant.within) in
    let same : (get_or pattern at 0 == byte "?" || get_or pattern at 0 == get_or name at 0) ≡ true =
    grind (arith, nat_tests, common_steps) in
    passed_more pattern name at c.loop-at-test.true within (grind (arith, nat_tests)) same c.loop-at.invariant
