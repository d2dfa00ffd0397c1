use Rattle.agenda_table.proofs.ShortLemmas.{jobs_short}
use Rattle.agenda_table.proofs.jobs.write_job_table.Goals as goal

pub write_table-requires : goal.write_table-requires
write_table-requires g c =
    let table = c.args.table.now in
    jobs_short table.look.now table.delays table.starts.now table.jobs.now
