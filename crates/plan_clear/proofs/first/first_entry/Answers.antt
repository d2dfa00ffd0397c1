use Rattle.std.proofs.Common.{◌≡◌, ◌+◌, ◌<◌, Some, ap, length, sym, subst, ◌∙◌, arith}
use Rattle.std.proofs.lemmas.List.{length-map}
use Rattle.std.proofs.lemmas.Option.{slice_get-map}
use Rattle.std.specs.Option.{option_map}
use Rattle.plan_collect.specs.AgendaLaws.{job_there}
use Rattle.plan_clear.specs.First.{whole_minute, whole_minutes}
use Rattle.plan_clear.proofs.FirstLemmas.{IsFirstOf, first_of-job, first_of_all, opens_in}
use Rattle.plan_clear.proofs.first.first_entry.Goals as goal
use Rattle.plan_clear.proofs.first.first_entry.Goals.{in-Some, in_default}

pub loop-number-preserved : goal.loop-number-preserved
loop-number-preserved c =
    let jobs = whole_minutes c.args.jobs.now in
    let number = c.loop-number.number in
    let there : number < length c.args.jobs.now = omega (arith, c.len-count.ensures.len) in
    elim c.match-get.branch [
      | in-Some w ↦ (
          let own = ap (option_map whole_minute) w.in-Some.ensures ∙ sym (slice_get-map whole_minute c.args.jobs.now number) in
          subst (IsFirstOf (opens_in jobs c.args.span) (number + 1)) (sym (w.first-is ∙ w.earlier-first.ensures))
          (first_of-job jobs c.args.span number (whole_minute w.in-Some.job.now) c.loop-number.first
          w.first_window.result own c.loop-number.invariant w.first_window.ensures))
      | in_default w ↦ absurd (job_there c.args.jobs.now number w.in_default.ensures there)
    ]

pub returns-in_err-second-clause-first : goal.returns-in_err-second-clause-first
returns-in_err-second-clause-first c =
    let jobs = whole_minutes c.args.jobs.now in
    let all : c.loop-number.number ≡ length jobs = omega (arith, c.len-count.ensures.len, length-map c.args.jobs.now whole_minute) in
    let first = first_of_all jobs c.args.span c.loop-number.first
    (subst (λ n. IsFirstOf (opens_in jobs c.args.span) n c.loop-number.first) all c.loop-number.invariant) in
    c.from_residual.ensures ∙ sym c.in_err-second.was ∙ first

pub returns-clause-first : goal.returns-clause-first
returns-clause-first c =
    let jobs = whole_minutes c.args.jobs.now in
    let all : c.loop-number.number ≡ length jobs = omega (arith, c.len-count.ensures.len, length-map c.args.jobs.now whole_minute) in
    let first = first_of_all jobs c.args.span c.loop-number.first
    (subst (λ n. IsFirstOf (opens_in jobs c.args.span) n c.loop-number.first) all c.loop-number.invariant) in
    ap Some c.new.ensures ∙ sym c.in_ok-second.was ∙ first
