-- Bytes that are read as a zone are not rejected: what a rule gives depends only on its text.
use Rattle.std.proofs.Common.{◌≡◌, ℕ, ℤ, List, Option, None, Some, refl, ap, inl, inr}
use Rattle.std.specs.Prelude.{option_map, IfSome}
use Rattle.jiff_core.specs.declared.Offset.{Offset}
use Rattle.jiff_tz.specs.Abbreviation.{abbreviation_text}
use Rattle.jiff_tz.specs.declared.info.OffsetInfo.{OffsetInfo}
use Rattle.jiff_tz.specs.declared.posix.DayTime.{DayTime}
use Rattle.jiff_tz.specs.declared.posix.Dst.{Dst}
use Rattle.jiff_tz.specs.declared.posix.TimeZone.{TimeZone}
use Rattle.jiff_tz.specs.declared.tzif.Tzif.{Tzif}
use Rattle.jiff_tz.specs.PosixRule.{dst_at_by, dst_info, info_at, match_some, rule_nanos, std_info, utc_window}
use Rattle.jiff_tz.specs.PosixText.{dst_view, tz_view}
use Rattle.jiff_tz.specs.TzifAgree.{FooterAgrees}
use Rattle.jiff_tz.specs.TzifText.{TransitionText}
use Rattle.plan_zones.specs.Zones.{IsBadZone, Reads}
use Rattle.std.proofs.Common.{arith}
use Rattle.std.proofs.lemmas.Bool.Decides.{nat_tests}

-- a rule's time depends on its day, its time of day and its offset
same_nanos : (y : ℤ) (a b : DayTime) (s t : ℤ) → a.date ≡ b.date → a.time ≡ b.time → s ≡ t → rule_nanos y a s ≡ rule_nanos y b t
unfolding rule_nanos
same_nanos y a b s t date time seconds = rw (date, time, seconds) refl

-- a window depends on its two ends
same_window : (y : ℤ) (d e : Dst) (a b : Offset) → dst_view d ≡ dst_view e → a.seconds ≡ b.seconds → utc_window d y a ≡ utc_window e y b
unfolding utc_window
same_window y d e a b views std = grind (arith, nat_tests, same_nanos)

-- what is known of an instant: the offset, whether it is daylight saving time, and the abbreviation
abbrev said : OffsetInfo → ℤ × Rattle.jiff_tz.specs.declared.info.Dst.Dst × List ℕ
said i = (i.offset.seconds, i.dst, abbreviation_text i.abbreviation)

-- two rules with the same text give the same for every instant
same_info_by :
    (a b : TimeZone) (n : ℤ) (o p : Option Dst) → option_map dst_view o ≡ option_map dst_view p →
    a.std_offset.seconds ≡ b.std_offset.seconds → abbreviation_text a.std_abbrev ≡ abbreviation_text b.std_abbrev
    → said (match_some (dst_at_by a.std_offset o n) (std_info a) dst_info) ≡ said
    (match_some (dst_at_by b.std_offset p n) (std_info b) dst_info)
same_info_by a b n None None e std name = rw (std, name) refl
same_info_by a b n None (Some d) e std name = absurd (cc)
same_info_by a b n (Some d) None e std name = absurd (cc)
same_info_by a b n (Some d) (Some f) e std name = grind (arith, nat_tests, same_window, said)

same_info : (a b : TimeZone) (n : ℤ) → tz_view a ≡ tz_view b → said (info_at a n) ≡ said (info_at b n)
same_info a b n views = same_info_by a b n a.dst b.dst (ap (λ v. v.dst) views) (ap (λ v. v.std_seconds) views) (ap (λ v. v.std_name) views)

-- two rules with the same text agree with the same tables
agrees_with :
    (rows : List TransitionText) (o : Option TimeZone) (rule : TimeZone) → option_map tz_view o ≡ Some (tz_view rule) →
    IfSome o (λ tz. FooterAgrees rows tz) → FooterAgrees rows rule
agrees_with rows None rule e h = absurd (cc)
agrees_with rows (Some tz) rule e h = grind (arith, nat_tests, same_info)

-- bytes that are read as a zone are not a bad zone
pub Reads-good : (bytes : List ℕ) (z : Tzif) → Reads bytes z → IsBadZone bytes → ⊥
Reads-good bytes z reads (inl rejected) = let ok = reads.read in let err = rejected.1 in absurd (cc)
Reads-good bytes z reads (inr bad) = grind (arith, nat_tests, agrees_with)
