use Rattle.std.proofs.Common.{◌≡◌, ◌<◌, length, Some, ap, sym, ◌∙◌, arith}
use Rattle.std.specs.Prelude.{option_map, slice_get}
use Rattle.std.proofs.lemmas.Option.{slice_get-map}
use Rattle.plan_collect.specs.AgendaLaws.{job_there, length-timings_of}
use Rattle.plan_collect.specs.Windows.{timing_of, timings_of}
use Rattle.plan_serial.proofs.SerialLemmas.{IsUpTo-more, next_at, finished-all, err_not_ok}
use Rattle.plan_serial.proofs.serial.plan_serial.Goals as goal
use Rattle.plan_serial.proofs.serial.plan_serial.Goals.{in-Some+in_ok-collect_job, in_default}

pub collect_job-requires-clause-open : goal.collect_job-requires-clause-open
collect_job-requires-clause-open c =
    let known : slice_get (timings_of c.args.jobs.now) c.loop-number.number ≡ Some (timing_of c.in-Some.job.now) =
    slice_get-map timing_of c.args.jobs.now c.loop-number.number ∙ ap (option_map timing_of) (sym c.in-Some.ensures) in
    ap (λ covered. slice_get covered c.loop-number.number) c.loop-number.invariant.covered
    ∙ next_at c.loop-number.number c.args.span (timings_of c.args.jobs.now) (timing_of c.in-Some.job.now) known

pub loop-number-preserved : goal.loop-number-preserved
loop-number-preserved c =
    let as_many : length (timings_of c.args.jobs.now) ≡ length c.args.jobs.now = length-timings_of c.args.jobs.now in
    let there : c.loop-number.number < length c.args.jobs.now = omega (arith, c.len-number-end.ensures.len) in
    elim c.match-get.branch [
      | in-Some+in_ok-collect_job w ↦ IsUpTo-more (timings_of c.args.jobs.now) c.args.span c.args.limit c.loop-number.number
          c.loop-number.collector c.match-get.collector c.loop-number.invariant (omega arith)
          (w.collector-is ∙ w.in_ok-collect_job.ensures.covered)
      | in_default w ↦ absurd (job_there c.args.jobs.now c.loop-number.number w.in_default.ensures there)
    ]

pub returns-in_err-finish-clause-planned : goal.returns-in_err-finish-clause-planned
returns-in_err-finish-clause-planned c =
    let as_many : length (timings_of c.args.jobs.now) ≡ length c.args.jobs.now = length-timings_of c.args.jobs.now in
    let all : c.loop-number.number ≡ length (timings_of c.args.jobs.now) = omega (arith, c.len-number-end.ensures.len) in
    let is = finished-all (timings_of c.args.jobs.now) c.args.span c.args.limit c.loop-number.number c.loop-number.collector
    c.accept.new.self c.loop-number.invariant all c.in_ok-accept.ensures.accepted in
    absurd (err_not_ok _ _ (c.in_err-finish.ensures.agenda ∙ is))
