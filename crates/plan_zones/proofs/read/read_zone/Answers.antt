use Rattle.std.proofs.Common.{◌≡◌, sym, subst}
use Rattle.plan_clock.specs.Rows.{offset_of}
use Rattle.plan_zones.specs.Changes.{zone_offset}
use Rattle.plan_zones.proofs.ReadsLemmas.{Reads-good}
use Rattle.plan_zones.proofs.read.read_zone.Goals as goal

pub returns-clause-clock : goal.returns-clause-clock
returns-clause-clock c =
    let zone = c.in-Ok.zone in (
      zone,
      record { read = c.in-Ok.ensures.value; agrees = c.in-Ok.ensures.agrees },
      λ second lt.
          subst (λ clock. offset_of clock second ≡ zone_offset zone second)
          (sym c.in_ok-clock.ensures) (c.in_ok-changes.ensures.same second lt),
    )

pub returns-clause-good : goal.returns-clause-good
returns-clause-good c =
    Reads-good c.args.bytes.now c.in-Ok.zone (record { read = c.in-Ok.ensures.value; agrees = c.in-Ok.ensures.agrees })
