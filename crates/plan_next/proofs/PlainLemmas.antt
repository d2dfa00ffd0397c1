-- The starts of a cron rule in an hour of what its clock shows.
-- For `add_minutes`, which continues from a start in a part of time where the rule starts exactly when what is
-- shown matches.
use Rattle.std.proofs.Common.{◌≡◌, ℕ, ◌+◌, ◌-◌, ◌*◌, ◌/◌, ◌%◌, ◌<◌, ◌≤◌, true, Bor, List, Some, sym, ap, subst, ◌∙◌, arith}
use Rattle.plan_sets.specs.Limits.{end_second}
use Rattle.plan_sets.specs.Values.{has_value}
use Rattle.plan_match.specs.declared.cron.CronRule.{CronRule}
use Rattle.plan_match.specs.declared.rule.Rule.TheVariants as rule
use Rattle.plan_next.specs.declared.search.Pattern.TheVariants.{Cron}
use Rattle.plan_next.specs.declared.zone.Plain.{Plain}
use Rattle.std.specs.Prelude.{slice_index}
use Rattle.plan_next.specs.Next.{AreNextMinutes, IsFirstOrEnd}
use Rattle.plan_next.specs.Search.{admits_moment, matches_shown, starts_by, IsPlain}
use Rattle.plan_next.specs.Starts.{is_start, IsFirstIn, IsLeastIn}
use Rattle.plan_next.proofs.FirstLemmas.{IsFirstIn-same}
use Rattle.plan_next.proofs.MinuteLemmas.{next-kept, IsLeastIn-minute}
use Rattle.plan_next.proofs.StartsLemmas.{admits_moment-shown, is_start-by}
use Rattle.plan_next.proofs.StretchLemmas.{IsFirstIn-moved, IsLeastIn-longer}

-- what is shown at a start of the part matches
pub plain_admits :
    (cron : Bor CronRule) (start end : ℕ) (part : Plain) (last : ℕ) → end ≤ end_second → IsPlain (Cron cron) start end part →
    start ≤ last → last < part.upto → is_start (rule.Cron cron.now) last ≡ true →
    admits_moment (Cron cron) (part.shown + (last - start)) ≡ true
plain_admits cron start end part last bound plain from before is =
    let years = plain.years in
    let within = plain.within in
    let here : start + (last - start) ≡ last = omega arith in
    admits_moment-shown (Cron cron) (part.shown + (last - start)) (omega arith)
    ∙ sym (plain.same (last - start) (omega arith))
    ∙ ap (starts_by (Cron cron)) here
    ∙ is_start-by cron last (omega arith)
    ∙ is

-- the rule starts next at the next of its minutes, if that is in the part
pub IsLeastIn-next_minute :
    (cron : Bor CronRule) (start end : ℕ) (part : Plain) (last minute next later : ℕ) → end ≤ end_second →
    IsPlain (Cron cron) start end part → start ≤ last → last < part.upto → is_start (rule.Cron cron.now) last ≡ true →
    minute ≡ (part.shown + (last - start)) / 60 % 60 → IsFirstOrEnd (has_value cron.now.minutes) (minute + 1) 60 next → next < 60 →
    later ≡ last + (next - minute) * 60 → later < part.upto → IsLeastIn (is_start (rule.Cron cron.now)) (last + 1) end later
IsLeastIn-next_minute cron start end part last minute next later bound plain from within is minute_is first room later_is before =
    let years = plain.years in
    let to = plain.within in
    let begun = plain.before in
    let n = part.shown + (last - start) in
    let last_shown = part.shown + (part.upto - start) in
    let shown = part.shown + (later - start) in
    let next_from = first.from in
    let shown_is : shown ≡ n + (next - n / 60 % 60) * 60 = omega arith in
    let least : IsLeastIn (admits_moment (Cron cron)) (n + 1) last_shown shown = IsLeastIn-minute cron n next shown last_shown
    (plain_admits cron start end part last bound plain from within is) (rw minute_is at first) room shown_is (omega arith) in
    let matched : IsFirstIn (matches_shown (Cron cron)) (n + 1) last_shown (Some shown) = IsFirstIn-same (admits_moment (Cron cron))
    (matches_shown (Cron cron)) (n + 1) last_shown (Some shown) (λ k lt. admits_moment-shown (Cron cron) k (omega arith)) least in
    let from_shown : n + 1 ≡ part.shown + (last - start + 1) = omega arith in
    let moved = IsFirstIn-moved (matches_shown (Cron cron)) (starts_by (Cron cron)) start part.shown part.upto (last - start + 1)
    (Some shown) (omega arith) plain.same
    (subst (λ low. IsFirstIn (matches_shown (Cron cron)) low last_shown (Some shown)) from_shown matched) in
    let from_is : start + (last - start + 1) ≡ last + 1 = omega arith in
    let back : start + (shown - part.shown) ≡ later = omega arith in
    let starts : IsLeastIn (starts_by (Cron cron)) (last + 1) part.upto later = subst
    (λ low. IsLeastIn (starts_by (Cron cron)) low part.upto later) from_is
    (subst (λ n. IsLeastIn (starts_by (Cron cron)) (start + (last - start + 1)) part.upto n) back moved) in
    IsFirstIn-same (starts_by (Cron cron)) (is_start (rule.Cron cron.now)) (last + 1) end (Some later)
    (λ k lt. is_start-by cron k (omega arith))
    (IsLeastIn-longer (starts_by (Cron cron)) (last + 1) part.upto end later to starts)

-- the next minute is kept for the minute of a start
pub next_minute :
    (cron : Bor CronRule) (kept : List ℕ) (start end : ℕ) (part : Plain) (last minute : ℕ) → end ≤ end_second →
    IsPlain (Cron cron) start end part → AreNextMinutes cron.now.minutes kept → start ≤ last → last < part.upto →
    is_start (rule.Cron cron.now) last ≡ true → minute ≡ (part.shown + (last - start)) / 60 % 60 →
    IsFirstOrEnd (has_value cron.now.minutes) (minute + 1) 60 (slice_index kept minute)
next_minute cron kept start end part last minute bound plain keeps from before is minute_is =
    next-kept cron kept (part.shown + (last - start)) minute keeps (plain_admits cron start end part last bound plain from before is)
    minute_is
