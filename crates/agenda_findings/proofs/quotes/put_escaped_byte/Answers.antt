use Rattle.std.proofs.Common.{◌≡◌, ◌/◌, ◌%◌, [], ◌∷◌, ◌++◌, codes, arith, subst}
use Rattle.std.specs.Char.{digit_char}
use Rattle.std.proofs.lemmas.Bool.Decides.{nat_tests}
use Rattle.plan_streams.specs.Writer.{Takes}
use Rattle.plan_write.specs.Json.{text_in}
use Rattle.agenda_findings.specs.Quotes.{escaped}
use Rattle.agenda_findings.proofs.TextLemmas.{takes_texts}
use Rattle.agenda_findings.proofs.quotes.put_escaped_byte.Goals as goal

pub returns-then-byte-eq92 : goal.returns-then-byte-eq92
returns-then-byte-eq92 g c = rw c.if-byte-eq92.true c.put_text.ensures

pub returns-then-byte-eq127 : goal.returns-then-byte-eq127
returns-then-byte-eq127 g c =
    let byte = c.args.byte in
    let lines = c.args.lines.now in
    let after = c.put_text-then-byte-eq127-2.new.lines in
    let digits = digit_char (byte / 16) ∷ digit_char (byte % 16) ∷ [] in
    let is : codes "\\x" ++ digits ≡ escaped byte = grind (arith, nat_tests) in
    subst (λ text. Takes g.S.Stream.holds g.S.Stream.takes_all lines after (text_in c.args.json text)) is
    (takes_texts g.S.Stream.holds g.S.Stream.takes_all c.args.json lines c.put_text-then-byte-eq127.new.lines after
    (codes "\\x") digits c.put_text-then-byte-eq127.ensures
    (rw (c.hex_digit.ensures, c.hex_digit-then-byte-eq127.ensures) at c.put_text-then-byte-eq127-2.ensures))
