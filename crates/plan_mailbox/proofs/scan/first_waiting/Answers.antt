use Rattle.std.proofs.Common.{◌-◌, length, nat_lt, refl, sym, ◌∙◌, rules, tests, arith}
use Rattle.std.proofs.lemmas.Iterator.{YieldsList-from_range}
use Rattle.std.proofs.lemmas.Iterator.Adapters.{option_map_id}
use Rattle.std.proofs.lemmas.Iterator.Consumers.{YieldsList-from_chain}
use Rattle.std.proofs.lemmas.Iterator.Search.{find_from_yields_List}
use Rattle.plan_mailbox.specs.Places.{waiting_in}
use Rattle.plan_mailbox.proofs.scan.first_waiting.Goals as goal

pub returns-clause-first : goal.returns-clause-first
returns-clause-first g c =
    let lanes = c.args.lanes.now in
    let turn = c.args.turn in
    sym (option_map_id c.find.result) ∙ find_from_yields_List (λ s. nat_lt 0 (length (waiting_in g.L.Lane.waiting lanes s))) _ _
    c.find.result c.find.ensures.ran
    (YieldsList-from_chain (YieldsList-from_range turn (length lanes) (length lanes - turn) (cc) refl)
    (YieldsList-from_range 0 turn turn (cc) (omega arith)) c.chain.ensures.first_done c.chain.ensures.second_done)
    (λ x b q k. search (rules, tests))
