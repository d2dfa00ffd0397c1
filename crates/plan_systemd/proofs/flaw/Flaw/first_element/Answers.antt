-- The first pair of a text and an item that has the flaw is the first of the elements, which are these pairs.
use Rattle.std.proofs.Common.{rules, tests, ◌==◌, ◌∙◌}
use Rattle.std.specs.Str.{byte}
use Rattle.std.proofs.lemmas.Iterator.{YieldsList-from_slice, YieldsList-from_zip}
use Rattle.std.proofs.lemmas.Iterator.Consumers.{YieldsList-at}
use Rattle.std.proofs.lemmas.Iterator.Search.{find_from_yields_List}
use Rattle.std.proofs.lemmas.Iterator.Splits.{YieldsList-from_slice_split}
use Rattle.plan_systemd.specs.Flaws.{has_flaw}
use Rattle.plan_systemd.proofs.flaw.Flaw.first_element.Goals as goal

pub returns : goal.returns
returns c =
    find_from_yields_List (has_flaw c.args.self) c.find.new.self _ c.find.result c.find.ensures.ran
    (YieldsList-from_zip
    (YieldsList-at c.zip.ensures.first
    (YieldsList-from_slice_split _ (λ b. b == byte ",") _ c.split.ensures.rest c.split.ensures.done c.split.ensures.closure
    (λ x r q k. search (rules, tests))))
    (YieldsList-at c.zip.ensures.second (YieldsList-from_slice _ (c.iter.ensures.rest ∙ c.deref.ensures.value))))
    (λ x b q k. search (rules, tests))
