use Rattle.std.proofs.Common.{◌++◌, string_bytes, ap, sym, ◌∙◌, append_assoc, append-nil}
use Rattle.plan_timers.proofs.NameLemmas.{job_of_empty, job_of_next}
use Rattle.plan_timers.proofs.names.job_name.Goals as goal

pub loop-letter-preserved : goal.loop-letter-preserved
loop-letter-preserved c =
    let parts = c.in-Some.ensures.steps.0 in
    rw (c.in_ok-push.ensures.bytes, c.dashed.ensures, append_assoc) (rw (parts, job_of_next c.in-Some.letter _) at c.loop-letter.invariant)

pub returns : goal.returns
returns c =
    let none = job_of_empty _ c.in-None.ensures.steps.0.0 in
    c.new.ensures ∙ sym (append-nil _) ∙ ap (λ left. string_bytes c.loop-letter.job ++ left) (sym none) ∙ c.loop-letter.invariant
