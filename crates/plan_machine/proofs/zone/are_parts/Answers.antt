use Rattle.std.proofs.Common.{rules, tests, not, ◌==◌, length}
use Rattle.std.proofs.lemmas.Iterator.Search.{all_from_yields_List}
use Rattle.std.proofs.lemmas.Iterator.Splits.{YieldsList-from_slice_split}
use Rattle.std.specs.Str.{byte}
use Rattle.plan_machine.proofs.zone.are_parts.Goals as goal

pub returns : goal.returns
returns c =
    all_from_yields_List (λ part. not (length part == 0)) _ _ _ c.all.ensures.ran
    (YieldsList-from_slice_split _ (λ b. b == byte "/") c.args.text.now c.split.ensures.rest c.split.ensures.done
    c.split.ensures.closure (λ x r q k. search (rules, tests)))
    (λ x r q k. search (rules, tests))
