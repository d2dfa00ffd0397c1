use Rattle.std.proofs.Common.{◌≡◌, ℕ, List, Option, Some, OnOk, ap, sym, ◌∙◌, subst}
use Rattle.std.specs.Option.{option_map}
use Rattle.plan_rules.specs.Names.{with_found}
use Rattle.plan_rules.specs.Timer.{effect_shown}
use Rattle.plan_rules.specs.TimerZones.{effect_zone}
use Rattle.plan_rules.proofs.timer_zones.add_effect_zone.Goals as goal

pub returns-in-Some-clause-added : goal.returns-in-Some-clause-added
returns-in-Some-clause-added c =
    let found : Some c.in-Some.name.now ≡ effect_zone (effect_shown c.args.effect) =
    ap (option_map (λ name. name.now)) (sym c.in-Some.is) ∙ c.in_ok-name.ensures
    ∙ ap (λ effect. effect_zone (effect_shown effect)) (sym c.in-Event.is) in
    subst (λ (name : Option (List ℕ)). OnOk c.add.result (c.add.new.self ≡ with_found c.args.names.now name)) found c.add.ensures.added
