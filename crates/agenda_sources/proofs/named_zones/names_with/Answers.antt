use Rattle.std.proofs.Common.{[], option_map, ap, sym, ◌∙◌}
use Rattle.plan_rules.specs.Names.{with_found, with_name}
use Rattle.agenda_sources.proofs.named_zones.names_with.Goals as goal
use Rattle.agenda_sources.proofs.named_zones.names_with.Goals.{in-Some+in_ok-add, in_default}

pub returns : goal.returns
returns c =
    elim c.match-name.branch [
      | in-Some+in_ok-add w ↦
          w.names-is ∙ w.in_ok-add.ensures.added
          ∙ ap (λ names. with_name names w.in-Some.name.now) c.new-names.ensures
          ∙ ap (λ name. with_found [] (option_map (λ n. n.now) name)) (sym w.in-Some.is)
      | in_default w ↦
          w.names-is ∙ c.new-names.ensures ∙ ap (λ name. with_found [] (option_map (λ n. n.now) name)) (sym w.in_default.is)
    ]
