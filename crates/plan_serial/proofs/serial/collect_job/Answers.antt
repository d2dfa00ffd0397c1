use Rattle.std.proofs.Common.{◌≤◌, ap, sym, subst, ◌∙◌, arith}
use Rattle.plan_next.specs.Piece.{Part}
use Rattle.plan_collect.specs.Span.{Bounds}
use Rattle.plan_collect.specs.PlanFault.{of_collect}
use Rattle.plan_serial.proofs.CollectLemmas.{Fails, IsAt, IsAt-more, piece_rejected}
use Rattle.plan_serial.proofs.SerialLemmas.{if_err}
use Rattle.plan_serial.proofs.serial.collect_job.Goals as goal

pub returns-in_err-accept-clause-fails : goal.returns-in_err-accept-clause-fails
returns-in_err-accept-clause-fails c =
    let within : c.in_ok-piece.piece.upto ≤ c.args.span.upto = c.in_ok-piece.ensures.within in
    if_err c.from_residual-in_err-accept.result (of_collect c.in_err-accept.field-0.0)
    (Fails c.args.collector.now) c.from_residual-in_err-accept.ensures.1
    (piece_rejected c.args.collector.now c.loop-piece.collector c.args.number _ c.in_ok-piece.piece c.loop-piece.since c.args.span.upto
    c.in_err-accept.field-0.0
    c.loop-piece.invariant.0 c.requires.one (ap (λ (s : Bounds). s.upto) c.requires.span) c.requires.timing
    (ap (λ (p : Part). p.rule) c.in_ok-piece.ensures.piece ∙ c.rule.ensures) (ap (λ (p : Part). p.since) c.in_ok-piece.ensures.piece) within
    c.in_err-accept.ensures.answer c.in_err-accept.ensures.too_many)

pub loop-piece-preserved : goal.loop-piece-preserved
loop-piece-preserved c =
    let within : c.upto-since.result ≤ c.args.span.upto = omega (arith, c.in_ok-piece.ensures.within, c.upto-since.ensures.value) in (
      subst (IsAt c.args.collector.now c.accept.new.self c.args.number) (sym c.upto-since.ensures.value)
          (IsAt-more c.args.collector.now c.loop-piece.collector c.accept.new.self c.args.number c.loop-piece.since
          c.in_ok-piece.piece.upto c.loop-piece.invariant.0 c.in_ok-accept.ensures.accepted),
      within,
    )
