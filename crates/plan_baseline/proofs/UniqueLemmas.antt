-- A text is read in one way only.
use Rattle.std.proofs.Common.{◌≡◌, ℕ, zero, suc, ◌+◌, List, [], ◌∷◌, Option, None, Some, decimal, ap, arith, refl, subst, sym, ◌∙◌}
use Rattle.std.proofs.lemmas.Fmt.{decimal_injective}
use Rattle.std.proofs.lemmas.Option.{same_Some}
use Rattle.plan_texts.specs.Text.{cut_at}
use Rattle.plan_baseline.specs.Line.{Line}
use Rattle.plan_baseline.specs.Reading.{AreRead, GoesOn, GoesOnWithLines, Head, IsHeader, IsHeadRead, IsLine, IsLineRead, IsReading, Lines, Reading, after_head, after_line}
use Rattle.plan_baseline.specs.Times.{IsTimeOf}
use Rattle.plan_baseline.proofs.TimeLemmas.{time_unique}

-- a text that is the time of two seconds in two ways
times_same : (a b : List ℕ) (m n : ℕ) → a ≡ b → IsTimeOf a m → IsTimeOf b n → m ≡ n
times_same a b m n same is is₂ = time_unique b m n (subst (λ t. IsTimeOf t m) same is) is₂

line_unique : (from upto : ℕ) (text : List ℕ) (line other : Line) → IsLine from upto text line → IsLine from upto text other → line ≡ other
line_unique from upto text line other is is₂ =
    let parts = same_Some (is.time, (line.job, line.runs)) (is₂.time, (other.job, other.runs)) (sym is.columns_are ∙ is₂.columns_are) in
    let second : line.second ≡ other.second =
    times_same is.time is₂.time line.second other.second (λ i. (parts i).0) is.time_is is₂.time_is in
    λ i. record { second = second i; job = (parts i).1.0; runs = (parts i).1.1 }

line_read_unique :
    (from upto : ℕ) (text : List ℕ) (next other : Option (Line × List ℕ)) → IsLineRead from upto text next → IsLineRead from upto text other →
    next ≡ other
line_read_unique from upto text None None none none₂ = refl
line_read_unique from upto text None (Some (line, rest)) none begins = absurd (none line rest begins)
line_read_unique from upto text (Some (line, rest)) None begins none = absurd (none line rest begins)
line_read_unique from upto text (Some (line, rest)) (Some (other, rest₂)) begins begins₂ =
    let cut = same_Some (begins.0, rest) (begins₂.0, rest₂) (sym begins.1 ∙ begins₂.1) in
    let same : line ≡ other =
    line_unique from upto begins₂.0 line other (subst (λ t. IsLine from upto t line) (λ i. (cut i).0) begins.2) begins₂.2 in
    λ i. Some (same i, (cut i).1)

goes_on_unique :
    (IsRead : (from : ℕ) → (text : List ℕ) → Lines → Type 0) →
    ((from : ℕ) (text : List ℕ) (read other : Lines) → IsRead from text read → IsRead from text other → read ≡ other) → (number : ℕ)
    (next : Option (Line × List ℕ)) (read other : Lines) → GoesOn IsRead number next read → GoesOn IsRead number next other → read ≡ other
goes_on_unique IsRead unique number None read other on on₂ = on ∙ sym on₂
goes_on_unique IsRead unique number (Some (line, rest)) read other (later, are, is) (later₂, are₂, is₂) =
    is ∙ ap (after_line line) (unique line.second rest later later₂ are are₂) ∙ sym is₂

-- the lines of a text are read in one way only
lines_unique :
    (left number upto from : ℕ) (text : List ℕ) (read other : Lines) → AreRead left number upto from text read →
    AreRead left number upto from text other → read ≡ other
unfolding AreRead
lines_unique zero number upto from text read other is is₂ = is ∙ sym is₂
lines_unique (suc left) number upto from text read other (next, line, on) (next₂, line₂, on₂) =
    let same = line_read_unique from upto text next₂ next line₂ line in
    goes_on_unique (AreRead left (number + 1) upto) (λ first more a b is is₂. lines_unique left (number + 1) upto first more a b is is₂) number
    next read other on (subst (λ n. GoesOn (AreRead left (number + 1) upto) number n other) same on₂)

header_unique : (line : List ℕ) (head other : Head) → IsHeader line head → IsHeader line other → head ≡ other
header_unique line head other is is₂ =
    let parts = same_Some (is.mark, (is.since, is.rest)) (is₂.mark, (is₂.since, is₂.rest)) (sym is.columns_are ∙ is₂.columns_are) in
    let rest : is.rest ≡ is₂.rest = λ i. (parts i).1.1 in
    let ends = same_Some (is.upto, is.count) (is₂.upto, is₂.count) (sym is.rest_is ∙ ap (cut_at (9 ∷ [])) rest ∙ is₂.rest_is) in
    let digits : decimal head.count ≡ decimal other.count = sym is.count_is.0 ∙ (λ i. (ends i).1) ∙ is₂.count_is.0 in
    let count : head.count ≡ other.count =
    decimal_injective head.count other.count (omega (arith, is.count_is.1)) (omega (arith, is₂.count_is.1)) digits in
    let since : head.span.since ≡ other.span.since =
    times_same is.since is₂.since head.span.since other.span.since (λ i. (parts i).1.0) is.span_is.0 is₂.span_is.0 in
    let upto : head.span.upto ≡ other.span.upto =
    times_same is.upto is₂.upto head.span.upto other.span.upto (λ i. (ends i).0) is.span_is.1 is₂.span_is.1 in
    λ i. record { span = record { since = since i; upto = upto i }; count = count i }

head_read_unique :
    (text : List ℕ) (head other : Option (Head × List ℕ)) → IsHeadRead text head → IsHeadRead text other → head ≡ other
head_read_unique text None None none none₂ = refl
head_read_unique text None (Some (head, rest)) none begins = absurd (none head rest begins)
head_read_unique text (Some (head, rest)) None begins none = absurd (none head rest begins)
head_read_unique text (Some (head, rest)) (Some (other, rest₂)) begins begins₂ =
    let cut = same_Some (begins.0, rest) (begins₂.0, rest₂) (sym begins.1 ∙ begins₂.1) in
    let same : head ≡ other =
    header_unique begins₂.0 head other (subst (λ t. IsHeader t head) (λ i. (cut i).0) begins.2) begins₂.2 in
    λ i. Some (same i, (cut i).1)

goes_on_with_lines_unique :
    (head : Option (Head × List ℕ)) (reading other : Reading) → GoesOnWithLines head reading → GoesOnWithLines head other → reading ≡ other
goes_on_with_lines_unique None reading other on on₂ = on ∙ sym on₂
goes_on_with_lines_unique (Some (head, rest)) reading other (lines, are, is) (lines₂, are₂, is₂) =
    is ∙ ap (after_head head) (lines_unique head.count 2 head.span.upto head.span.since rest lines lines₂ are are₂) ∙ sym is₂

pub reading_unique : (text : List ℕ) (reading other : Reading) → IsReading text reading → IsReading text other → reading ≡ other
reading_unique text reading other (head, is, on) (head₂, is₂, on₂) =
    let same = head_read_unique text head₂ head is₂ is in
    goes_on_with_lines_unique head reading other on (subst (λ h. GoesOnWithLines h other) same on₂)
