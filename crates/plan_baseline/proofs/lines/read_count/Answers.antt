-- A number in decimal is read as that number.
use Rattle.std.proofs.Common.{◌≡◌, ◌∙◌, ℕ, List, Result, Ok, ap, arith, decimal, false, subst, sym}
use Rattle.std.proofs.lemmas.Bool.Decides.{nat_tests}
use Rattle.std.proofs.lemmas.Fmt.{IsAscii-decimal, parse-decimal}
use Rattle.std.proofs.lemmas.Slice.Eq.{bytes_eq-Decides}
use Rattle.std.proofs.lemmas.Str.{IsUtf8-from_ascii}
use Rattle.std.specs.Str.{IsUtf8, bytes_eq}
use Rattle.std.specs.Str.Parse.{ParsesUnsigned}
use Rattle.plan_baseline.specs.Reading.{IsCount}
use Rattle.plan_baseline.proofs.lines.read_count.Goals as goal

count_utf8 : (text : List ℕ) (count : ℕ) → IsCount text count → IsUtf8 text
count_utf8 text count is =
    subst IsUtf8 (sym is.0) (IsUtf8-from_ascii (decimal count) (IsAscii-decimal count (omega (arith, is.1))))

read :
    {E : Type 0} (text : List ℕ) (count : ℕ) (result : Result ℕ E) → ParsesUnsigned 32 10 text result → IsCount text count →
    result ≡ Ok count
read text count result parses is = parse-decimal 32 count text result (omega (arith, is.1)) (omega (arith, is.1)) is.0 parses

pub returns-in_default-clause-none : goal.returns-in_default-clause-none
returns-in_default-clause-none c = λ count is. c.in_default.ensures.cases.0 (count_utf8 c.args.text.now count is)

pub returns-in_default-parse-clause-none : goal.returns-in_default-parse-clause-none
returns-in_default-parse-clause-none c = λ count is.
    let text : c.in-Ok.digits.now ≡ c.args.text.now = c.in-Ok.ensures.cases.0 in
    let found = read c.in-Ok.digits.now count c.parse.result c.parse.ensures.value.0 (text ∙ is.0, is.1) in
    let same : c.in-Ok-parse.count ≡ count = cc in
    let shown : c.format.result.now ≡ c.in-Ok.digits.now = c.format.ensures.text ∙ ap decimal same ∙ sym is.0 ∙ sym text in
    let differ : bytes_eq c.format.result.now c.in-Ok.digits.now ≡ false = sym c.eq.ensures ∙ c.if-eq.false in
    grind (arith, nat_tests, bytes_eq-Decides)

pub returns-in_default-parse-2-clause-none : goal.returns-in_default-parse-2-clause-none
returns-in_default-parse-2-clause-none c = λ count is.
    let text : c.in-Ok.digits.now ≡ c.args.text.now = c.in-Ok.ensures.cases.0 in
    let found = read c.in-Ok.digits.now count c.parse.result c.parse.ensures.value.0 (text ∙ is.0, is.1) in
    let same : c.in-Ok-parse.count ≡ count = cc in
    omega (arith, same, is.1, c.if-count-le-MOST_LINES.false)

pub returns-in_default-parse-3-clause-none : goal.returns-in_default-parse-3-clause-none
returns-in_default-parse-3-clause-none c = λ count is.
    let text : c.in-Ok.digits.now ≡ c.args.text.now = c.in-Ok.ensures.cases.0 in
    let found = read c.in-Ok.digits.now count c.parse.result c.parse.ensures.value.0 (text ∙ is.0, is.1) in
    cc
