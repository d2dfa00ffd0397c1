-- Texts as parts of strings, for the messages of findings.
use Rattle.std.proofs.Common.{◌≡◌, ℕ, Bool, true, false, List, [], ◌++◌, Option, refl, sym}
use Rattle.std.proofs.lemmas.Grind.{flat_map-append}
use Rattle.plan_streams.proofs.StreamLemmas.{takes_both}
use Rattle.plan_streams.specs.Writer.{Takes}
use Rattle.plan_streams.specs.declared.writer.TextWriter.{TextWriter}
use Rattle.plan_write.specs.Json.{json_byte, text_in}

-- two texts, one after the other
pub text_in_both : (json : Bool) (a b : List ℕ) → text_in json (a ++ b) ≡ text_in json a ++ text_in json b
text_in_both true a b = flat_map-append json_byte a b
text_in_both false a b = refl

pub text_in_none : (json : Bool) → text_in json [] ≡ []
text_in_none true = refl
text_in_none false = refl

-- two texts that a writer took one after the other are one text
pub takes_texts :
    {S : Type 0} (holds : S → Option (List ℕ)) (takes_all json : Bool) (a b c : TextWriter S) (first second : List ℕ) →
    Takes holds takes_all a b (text_in json first) → Takes holds takes_all b c (text_in json second) →
    Takes holds takes_all a c (text_in json (first ++ second))
takes_texts holds takes_all json a b c first second one two =
    takes_both holds takes_all a b c (text_in json first) (text_in json second) (text_in json (first ++ second)) one two
    (sym (text_in_both json first second))
