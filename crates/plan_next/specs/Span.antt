-- What contracts see of a span (agenda).
use Rattle.std.specs.Prelude.{ℕ, List, codes, refl}
use Rattle.std.specs.Coded.{Coded, code_by, coded×, coded_ℕ}
use Rattle.plan_next.specs.declared.span.SpanFault.{SpanFault}
use Rattle.plan_next.specs.declared.span.SpanFault.TheVariants.{Backwards, OutOfYears}

-- the seconds from `since` on, without `upto`
pub record Bounds : Type 0 where
  pub since : ℕ
  pub upto : ℕ

-- a span is stored as the pair of these
abbrev pub bounds_code : Coded Bounds
bounds_code =
    code_by (ℕ × ℕ) (coded× coded_ℕ coded_ℕ) (λ span. (span.since, span.upto)) (λ t. record { since = t.0; upto = t.1 })
    (λ _. refl)

-- the names of the errors of a span, as `Display` and error lines show them
abbrev pub span_cause : SpanFault → List ℕ
span_cause Backwards = codes "Backwards"
span_cause OutOfYears = codes "OutOfYears"
