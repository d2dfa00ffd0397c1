use Rattle.std.proofs.Common.{subst, sym}
use Rattle.agenda_inputs.specs.Files.{MayFail}
use Rattle.agenda_inputs.proofs.FileLemmas.{unread_by_kind}
use Rattle.agenda_inputs.proofs.files.read_file.Goals as goal

pub returns-in-Err-clause-read : goal.returns-in-Err-clause-read
returns-in-Err-clause-read g c =
    let file = g.F.Files.held c.args.files.now c.args.path.now in
    unread_by_kind file c.args.unread c.failure_of_kind.result c.kind.result
    (subst (λ kind. MayFail file kind) (sym c.kind.ensures) c.in-Err.ensures.fails) c.failure_of_kind.ensures
