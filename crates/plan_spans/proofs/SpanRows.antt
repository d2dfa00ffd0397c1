-- Worked rows of systemd.time(7), read only by the definitions. No proof uses them: they show what `time_span` should mean.
-- The values are those of `systemd-analyze timespan`, version 252. A row is computed, with the definitions unfolded.
use Rattle.std.proofs.Common.{◌≡◌, ℕ, true, List, [], ◌∷◌, ◌++◌, map, codes, Some, refl}
use Rattle.std.specs.List.{list_all}
use Rattle.std.specs.Option.{is_none}
use Rattle.plan_spans.specs.Spans.{unit_in_front, number_in_front, pair_in_front, sum_of_pairs, time_span}

-- texts with their values, in microseconds
abbrev spans : List (List ℕ × ℕ)
spans =
    -- pairs of a number and a unit, with and without white space; pairs are added
    (codes "2 h", 7_200_000_000)
    ∷ (codes "2hours", 7_200_000_000)
    ∷ (codes "48hr", 172_800_000_000)
    ∷ (codes "1y 12month", 63_115_200_000_000)
    ∷ (codes "55s500ms", 55_500_000)
    ∷ (codes "300ms20s 5day", 432_020_300_000)
    ∷ (codes "1w2d", 777_600_000_000)
    ∷ (codes "5 M", 13_149_000_000_000)
    ∷ (codes "5", 5_000_000)
    ∷ (codes "1h5", 3_605_000_000)
    ∷ (codes "5sec5", 10_000_000)
    ∷ (codes " 5\t", 5_000_000)
    ∷ (codes "1\t\r\nh", 3_600_000_000)
    -- each name of a unit
    ∷ (codes "1seconds 1second 1sec", 3_000_000)
    ∷ (codes "1minutes 1minute 1min 1m", 240_000_000)
    ∷ (codes "1hours 1hour 1hr 1h", 14_400_000_000)
    ∷ (codes "1days 1day 1d", 259_200_000_000)
    ∷ (codes "1weeks 1week 1w", 1_814_400_000_000)
    ∷ (codes "1months 1month 1M", 7_889_400_000_000)
    ∷ (codes "1years 1year 1y", 94_672_800_000_000)
    ∷ (codes "1msec 1ms", 2_000)
    ∷ (codes "1usec 1us 1" ++ (194 ∷ 181 ∷ []) ++ codes "s 1" ++ (206 ∷ 188 ∷ []) ++ codes "s", 4)
    -- a `+`, digits after the point, which are rounded down one by one, and a number without a unit
    ∷ (codes "1.5h", 5_400_000_000)
    ∷ (codes ".5s", 500_000)
    ∷ (codes "1 .5s", 1_500_000)
    ∷ (codes "+5s", 5_000_000)
    ∷ (codes "1h+5", 3_605_000_000)
    ∷ (codes "007s", 7_000_000)
    ∷ (codes "1.5us", 1)
    ∷ (codes "1.19ms", 1_190)
    ∷ (codes ".123456789s", 123_456)
    ∷ (codes "0.0000019s", 1)
    ∷ (codes "1.999y", 63_083_642_400_000)
    -- the largest numbers and sums
    ∷ (codes "9223372036854775807us", 9_223_372_036_854_775_807)
    ∷ (codes "9223372036854775807us 9223372036854775807us", 18_446_744_073_709_551_614)
    ∷ (codes "18446744073709550ms", 18_446_744_073_709_550_000)
    ∷ (codes "584541y", 18_446_711_061_600_000_000)
    -- the word `infinity`
    ∷ (codes "infinity", 18_446_744_073_709_551_615)
    ∷ (codes " infinity\t", 18_446_744_073_709_551_615)
    ∷ []

spans_hold : map (λ row. time_span row.0) spans ≡ map (λ row. Some row.1) spans
unfolding unit_in_front number_in_front pair_in_front sum_of_pairs time_span
spans_hold = refl

abbrev no_spans : List (List ℕ)
no_spans =
    -- texts that are no time spans
    codes "-1s"
    ∷ codes "1x"
    ∷ codes "s"
    ∷ codes "1 2 h x"
    ∷ codes "1..5s"
    ∷ codes "1.s"
    ∷ codes "1. 5s"
    ∷ codes "1.5.5s"
    ∷ codes "5secs"
    ∷ codes "5+3"
    ∷ codes "+ 5"
    ∷ codes "++5"
    ∷ codes "+.5s"
    ∷ codes "600000y"
    ∷ codes "INFINITY"
    ∷ codes "infinity 1s"
    ∷ codes "1s infinity"
    ∷ codes " "
    ∷ []
    -- numbers and sums that are too large
    ∷ codes "9223372036854775808us"
    ∷ codes "18446744073709551615us"
    ∷ codes "99999999999999999999us"
    ∷ codes "18446744073709551ms"
    ∷ codes "584542y"
    ∷ codes "9223372036854775807us 9223372036854775807us 1us"
    ∷ []

no_spans_hold : list_all (λ text. is_none (time_span text)) no_spans ≡ true
unfolding unit_in_front number_in_front pair_in_front sum_of_pairs time_span
no_spans_hold = refl
