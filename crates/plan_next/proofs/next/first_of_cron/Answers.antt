use Rattle.std.proofs.Common.{◌≡◌, ◌*◌, ◌<◌, [], Some, sym, ap, ◌∙◌, subst, arith}
use Rattle.std.specs.Int.{div_ceil}
use Rattle.plan_match.specs.declared.rule.Rule.TheVariants as rule
use Rattle.plan_next.specs.declared.search.Pattern.TheVariants.{Cron}
use Rattle.plan_next.specs.Starts.{is_start}
use Rattle.plan_next.specs.Search.{admits_moment}
use Rattle.plan_next.proofs.FirstLemmas.{IsFirstIn-same}
use Rattle.plan_next.proofs.MinuteLemmas.{IsLeastIn-first_minute}
use Rattle.plan_next.proofs.StartsLemmas.{is_start-cron}
use Rattle.plan_next.proofs.next.first_of_cron.Goals as goal

pub returns-then-starts_at_minute : goal.returns-then-starts_at_minute
returns-then-starts_at_minute c =
    let minute = c.div_ceil-minute.result in
    let none : c.args.rule.now.clock ≡ [] = c.is_utc.ensures.0 c.if-is_utc.true in
    let length : c.from.result ≡ 60 = omega (arith, c.from.ensures) in
    let again : c.from-then-is_utc.result ≡ 60 = omega (arith, c.from-then-is_utc.ensures) in
    let is : minute ≡ div_ceil c.args.since 60 = c.div_ceil-minute.ensures ∙ ap (λ unit. div_ceil c.args.since unit) length in
    let starts = sym c.starts_at_minute.ensures ∙ c.if-starts_at_minute.true in
    let before : minute * 60 < c.args.end = subst (λ unit. minute * unit < c.args.end) again c.if-first-end.true in
    rw again (IsFirstIn-same (admits_moment (Cron c.args.rule)) (is_start (rule.Cron c.args.rule.now)) c.args.since c.args.end
    (Some (minute * 60)) (λ n h. is_start-cron c.args.rule n none (omega arith))
    (IsLeastIn-first_minute c.args.rule c.args.since minute c.args.end is before starts))
