use Rattle.std.proofs.Common.{rules, tests, ◌==◌}
use Rattle.std.proofs.lemmas.Iterator.Search.{all_from_yields_List}
use Rattle.std.proofs.lemmas.Iterator.Splits.{YieldsList-from_slice_split}
use Rattle.std.specs.Str.{byte}
use Rattle.plan_zones.specs.ZoneTexts.{is_name_part, is_zone_name}
use Rattle.plan_zones.proofs.zone_text.is_zone_name.Goals as goal

pub returns : goal.returns
unfolding is_zone_name
returns c =
    all_from_yields_List is_name_part _ _ _ c.all.ensures.ran
    (YieldsList-from_slice_split _ (λ b. b == byte "/") c.args.text.now c.split.ensures.rest c.split.ensures.done
    c.split.ensures.closure (λ x r q k. search (rules, tests)))
    (λ x r q k. search (rules, tests))
