use Rattle.std.proofs.Common.{◌≡◌, true, sym, subst, ◌∙◌}
use Rattle.plan_collect.specs.Collecting.{belongs, adjoins}
use Rattle.plan_collect.specs.contracts.collector.Collector.{the_view}
use Rattle.plan_collect.proofs.HoldsLemmas.{room_is, no_room}
use Rattle.plan_collect.proofs.collector.Collector.has_room.Goals as goal

pub returns-in-Part-clause-value : goal.returns-in-Part-clause-value
returns-in-Part-clause-value c =
    rw c.in-Part.is (room_is (the_view c.self.inside) c.args.self.now c.self.inside.entries.items c.in-Part.field-0 c.in-Part.piece
    c.starts.result.now c.len.result c.self.view_is c.self.invariant c.starts.ensures (c.len.ensures ∙ c.self.inside.entries.ok.0))

pub returns-in-Part-clause-too_many : goal.returns-in-Part-clause-too_many
returns-in-Part-clause-too_many c = λ planner belonging adjoining full.
    let room = room_is (the_view c.self.inside) c.args.self.now c.self.inside.entries.items c.in-Part.field-0 c.in-Part.piece
    c.starts.result.now c.len.result c.self.view_is c.self.invariant c.starts.ensures (c.len.ensures ∙ c.self.inside.entries.ok.0) in
    no_room (the_view c.self.inside) c.args.self.now c.self.inside.entries.items planner c.in-Part.field-0 c.in-Part.piece
    c.self.view_is c.self.invariant
    (subst (λ note. belongs c.args.self.now planner note ≡ true) c.in-Part.is belonging)
    (subst (λ note. adjoins c.args.self.now note ≡ true) c.in-Part.is adjoining) (sym room ∙ full)
