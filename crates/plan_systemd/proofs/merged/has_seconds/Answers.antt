-- The sets are equal if their listings are.
use Rattle.std.proofs.Common.{◌∙◌, sym}
use Rattle.plan_sets.specs.ValuesLaws.{Decides-listing}
use Rattle.plan_systemd.proofs.merged.has_seconds.Goals as goal

pub returns-then-is_utc : goal.returns-then-is_utc
returns-then-is_utc c = λ yes. (
  c.is_utc.ensures.0 c.if-is_utc.true,
  (Decides-listing c.args.event.now.seconds c.args.seconds.now).0 (sym c.eq.ensures ∙ yes),
)
