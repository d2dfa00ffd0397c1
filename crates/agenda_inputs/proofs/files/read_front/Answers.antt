use Rattle.std.proofs.Common.{ap}
use Rattle.agenda_inputs.proofs.FileLemmas.{front_read}
use Rattle.agenda_inputs.proofs.files.read_front.Goals as goal

pub returns : goal.returns
returns g c =
    front_read (g.R.Read.remaining c.take.result.inner) (g.R.Read.remaining c.args.reader)
    c.take.result.limit c.args.most c.new-bytes.result.items c.read_to_end.new.buf.items (ap g.R.Read.remaining c.take.ensures.inner)
    c.take.ensures.limit
    c.new-bytes.ensures.items c.in_ok-read_to_end.ensures.bytes
