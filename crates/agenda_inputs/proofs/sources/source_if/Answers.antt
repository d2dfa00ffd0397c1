use Rattle.std.proofs.Common.{false}
use Rattle.agenda_inputs.specs.Sources.{tried_of}
use Rattle.agenda_inputs.proofs.StepLemmas.{passed_on}
use Rattle.agenda_inputs.proofs.sources.source_if.Goals as goal

pub returns-then-keep_going-clause-read : goal.returns-then-keep_going-clause-read
returns-then-keep_going-clause-read g c = rw c.if-keep_going.true c.try_source.ensures.read

pub returns-in_err-source-clause-read : goal.returns-in_err-source-clause-read
returns-in_err-source-clause-read g c =
    rw c.if-keep_going.false (passed_on (tried_of false (g.F.Files.held c.args.files.now) c.args.given.now) _ _
    c.in_err-source.ensures.read c.from_residual.ensures.1)
