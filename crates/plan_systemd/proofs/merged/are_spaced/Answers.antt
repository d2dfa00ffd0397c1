-- Without a clock, the seconds of the first event decide for all of them.
use Rattle.std.proofs.Common.{◌≡◌, ◌≤◌, ◌<◌, ◌∙◌, [], sym, arith}
use Rattle.plan_match.specs.declared.rule.Rule.TheVariants.{Events}
use Rattle.plan_match.specs.Zone.{rule_in}
use Rattle.plan_systemd.proofs.MergedLemmas.{no_close_starts, no_start_within}
use Rattle.plan_systemd.proofs.merged.are_spaced.Goals as goal

pub returns-then-apart-lt2 : goal.returns-then-apart-lt2
returns-then-apart-lt2 c = λ yes a b.
    let few : c.args.apart < 2 = omega arith in
    no_start_within (rule_in c.args.clock.now (Events c.args.events.now)) c.args.apart few a b

pub returns-then-have_seconds : goal.returns-then-have_seconds
returns-then-have_seconds c = λ yes a b.
    let utc : c.args.clock.now ≡ [] = c.is_utc.ensures.0 c.if-not-is_utc.false in
    let few : c.args.apart ≤ 60 = omega arith in
    no_close_starts c.in-Some.first.now.seconds c.args.events.now c.args.clock.now c.args.apart
    (c.have_seconds.ensures c.if-have_seconds.true) utc few (sym c.are_apart.ensures ∙ yes) a b
