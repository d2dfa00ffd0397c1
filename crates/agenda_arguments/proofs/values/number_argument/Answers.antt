-- Answers the one clause of `number_argument`, with and without a given number.
-- `get_one` reads the text by `parse` at 32 bits, the definition by clap's test of an unsigned number. Both
-- accept the same texts and read the same number (`number_parsed`, `number_rejected`).
use Rattle.std.proofs.Common.{◌≡◌, ◌∙◌, ap, sym, arith, refl, Bool, true, false, Option, Ok, Err, Result, Some, None, List, ℕ}
use Rattle.std.specs.Str.Parse.{ExplainsUnsignedError, HasUnsignedDigitsIfOk, ParsesUnsigned}
use Rattle.clap.proofs.ValueTestLemmas.{accepts-Accepts, Accepts-accepts}
use Rattle.clap.proofs.WalkLemmas.{one_text-rows}
use Rattle.clap.specs.ValueTests.{accepts}
use Rattle.clap.specs.Words.{ReadsOne, found_of, one_of, one_text, rows_of}
use Rattle.clap.specs.declared.builder.value_parser.ValueParser.TheVariants as parser
use Rattle.std.specs.declared.num.ParseIntError.{ParseIntError}
use Rattle.clap.specs.declared.parser.matches.ArgMatches.{ArgMatches}
use Rattle.agenda_arguments.specs.Values.{number_in, number_in_text, wanted}
use Rattle.agenda_arguments.proofs.values.number_argument.Goals as goal

-- what `parse` at 32 bits reads from a text is its number
number_parsed : (E : Type 0) (text : List ℕ) (n : ℕ) → ParsesUnsigned {E = E} 32 10 text (Ok n) → number_in_text text ≡ Some n
number_parsed E text n read =
    let fits : accepts false (parser.Unsigned 0 4294967295) text ≡ true =
    Accepts-accepts false (parser.Unsigned 0 4294967295) text (read.0.0, omega (arith, read.0.1), omega arith, omega (arith, read.0.1)) in
    rw fits (ap Some (sym read.1))

-- a text that `parse` rejects has no number
number_rejected : (E : Type 0) (text : List ℕ) (e : E) → ParsesUnsigned 32 10 text (Err e) → number_in_text text ≡ None
number_rejected E text e rejected = go (accepts false (parser.Unsigned 0 4294967295) text) refl
  where
    go : (b : Bool) → accepts false (parser.Unsigned 0 4294967295) text ≡ b → number_in_text text ≡ None
    go false fits = rw fits refl
    go true fits =
        let number = accepts-Accepts false (parser.Unsigned 0 4294967295) text fits in
        absurd (rejected (number.0, omega (arith, number.3)))

-- what `get_one` reads is the number in the text
number_read : (E : Type 0) (G : List ℕ → Result ℕ E → Type 0) (found : Option (List ℕ)) (r : Option ℕ)
    → ((text : List ℕ) (x : Result ℕ E) → G text x → ParsesUnsigned 32 10 text x)
    → (found ≡ None → r ≡ None) → ((text : List ℕ) → found ≡ Some text → ReadsOne G text r) → number_in found ≡ r
number_read E G None r parses none value = sym (none refl)
number_read E G (Some text) (Some n) parses none value = number_parsed E text n (parses text (Ok n) (value text refl))
number_read E G (Some text) None parses none value =
    let rejected = value text refl in
    number_rejected E text rejected.0 (parses text (Err rejected.0) rejected.1)

abbrev Reads : List ℕ → Result ℕ ParseIntError → Type 0
Reads text r = ParsesUnsigned 32 10 text r × ExplainsUnsignedError 10 text r × HasUnsignedDigitsIfOk text r

number : (m : ArgMatches) (id : List ℕ) (r : Option ℕ) → (one_text (found_of m) id ≡ None → r ≡ None)
    → ((text : List ℕ) → one_text (found_of m) id ≡ Some text → ReadsOne Reads text r) → number_in (one_of id (rows_of (found_of m))) ≡ r
number m id r none value =
    ap number_in (sym (one_text-rows (found_of m) id)) ∙ number_read ParseIntError Reads (one_text (found_of m) id) r (λ text x h. h.0) none
    value

pub returns-in-Some : goal.returns-in-Some
returns-in-Some c = ap (wanted {X = ℕ}) (number c.args.given.now c.args.option.now c.get_one.result c.get_one.ensures.none
    c.get_one.ensures.value ∙ c.in-Some.is)

pub returns-in_ok-missing-in-None : goal.returns-in_ok-missing-in-None
returns-in_ok-missing-in-None c = ap (wanted {X = ℕ})
    (number c.args.given.now c.args.option.now c.get_one.result c.get_one.ensures.none c.get_one.ensures.value ∙ c.in-None.is)
