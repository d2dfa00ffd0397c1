use Rattle.std.proofs.Common.{◌==◌, rules, tests}
use Rattle.std.proofs.lemmas.Iterator.Search.{any_from_yields_List}
use Rattle.std.proofs.lemmas.Iterator.Splits.{YieldsList-from_slice_split}
use Rattle.std.specs.Str.{byte}
use Rattle.plan_systemd.specs.EventHint.{is_old_range}
use Rattle.plan_systemd.proofs.hints.lists_old_range.Goals as goal

pub returns : goal.returns
returns c =
    any_from_yields_List is_old_range _ _ c.any.result c.any.ensures.ran
    (YieldsList-from_slice_split _ (λ b. b == byte ",") c.args.word.now c.split.ensures.rest c.split.ensures.done c.split.ensures.closure
    (λ x b q k. search (rules, tests)))
    (λ x b q k. search (rules, tests))
