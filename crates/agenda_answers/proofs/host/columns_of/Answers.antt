-- A text that is the number of columns is read as that number.
use Rattle.std.proofs.Common.{◌≡◌, ◌∙◌, ℕ, List, Result, Ok, ap, decimal, false, sym, arith}
use Rattle.std.proofs.lemmas.Fmt.{parse-decimal}
use Rattle.std.proofs.lemmas.Bool.Decides.{nat_tests}
use Rattle.std.proofs.lemmas.Slice.Eq.{bytes_eq-Decides}
use Rattle.std.specs.Str.{bytes_eq}
use Rattle.std.specs.Str.Parse.{ParsesUnsigned}
use Rattle.agenda_answers.specs.Host.{IsColumns}
use Rattle.agenda_answers.proofs.host.columns_of.Goals as goal

read :
    {E : Type 0} (text : List ℕ) (columns : ℕ) (result : Result ℕ E) → ParsesUnsigned 32 10 text result → IsColumns text columns →
    result ≡ Ok columns
read text columns result parses is = parse-decimal 32 columns text result (omega (arith, is.2)) (omega (arith, is.2)) is.0 parses

pub returns-else-eq-clause-none : goal.returns-else-eq-clause-none
returns-else-eq-clause-none c = λ columns is.
    let found = read c.args.text.now columns c.parse.result c.parse.ensures.value.0 is in
    let same : c.in-Ok.columns ≡ columns = cc in
    let shown : c.format.result.now ≡ c.args.text.now = c.format.ensures.text ∙ ap decimal same ∙ sym is.0 in
    let differ : bytes_eq c.format.result.now c.args.text.now ≡ false = sym c.eq.ensures ∙ c.if-eq.false in
    grind (arith, nat_tests, bytes_eq-Decides)

pub returns-in_default-clause-none : goal.returns-in_default-clause-none
returns-in_default-clause-none c = λ columns is.
    let found = read c.args.text.now columns c.parse.result c.parse.ensures.value.0 is in
    let same : c.in-Ok.columns ≡ columns = cc in
    omega (arith, same, is.2, c.if-columns-le999999.false)

pub returns-in_default-2-clause-none : goal.returns-in_default-2-clause-none
returns-in_default-2-clause-none c = λ columns is.
    let found = read c.args.text.now columns c.parse.result c.parse.ensures.value.0 is in
    let same : c.in-Ok.columns ≡ columns = cc in
    omega (arith, same, is.1, c.if-columns-ge20.false)

pub returns-in_default-3-clause-none : goal.returns-in_default-3-clause-none
returns-in_default-3-clause-none c = λ columns is.
    let found = read c.args.text.now columns c.parse.result c.parse.ensures.value.0 is in
    cc
