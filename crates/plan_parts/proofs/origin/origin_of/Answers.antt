-- The law holds of the definition.
use Rattle.std.proofs.Common.{◌≡◌, length, arith}
use Rattle.std.proofs.lemmas.List.{length-map}
use Rattle.plan_parts.specs.Files.{texts_of}
use Rattle.plan_parts.proofs.OriginLemmas.{origin_added, origin_inside, origin_same}
use Rattle.plan_parts.proofs.origin.origin_of.Goals as goal

pub returns-clause-same : goal.returns-clause-same
returns-clause-same c = rw c.found_origin.ensures (origin_same (texts_of c.args.parts.now) c.args.line)

pub returns-clause-added : goal.returns-clause-added
returns-clause-added c = rw c.found_origin.ensures (origin_added (texts_of c.args.parts.now) c.args.line)

pub returns-clause-inside : goal.returns-clause-inside
returns-clause-inside c = λ some.
    let files = c.args.parts.now in
    let count : length (texts_of files) ≡ length files = length-map files (λ file. file.bytes) in
    let inside = origin_inside (texts_of files) c.args.line (omega (arith, count, some)) in
    rw c.found_origin.ensures (omega (arith, count, inside))
