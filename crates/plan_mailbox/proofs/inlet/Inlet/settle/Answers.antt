use Rattle.std.proofs.Common.{◌<◌, length, ◌∙◌}
use Rattle.std.proofs.lemmas.Option.{slice_get_within}
use Rattle.std.proofs.lemmas.List.{length-map}
use Rattle.plan_mailbox.proofs.Receives.{receiving-settle, taken-now, known-now}
use Rattle.plan_mailbox.proofs.inlet.Inlet.settle.Goals as goal

pub returns-clause-accounts : goal.returns-clause-accounts
returns-clause-accounts g c =
    let inlet = c.args.self.now in
    let within : c.args.sender < length inlet.ends.items = simp length-map at (slice_get_within _ c.args.sender _ c.requires) in
    let now = c.settle.new.self in
    let was = c.index_mut.result.now in
    rw (
      taken-now inlet.turn inlet.ends.items c.args.sender now was within c.index_mut.ensures.value,
      known-now inlet.turn
          inlet.ends.items c.args.sender now was within c.index_mut.ensures.value,
    )
    (c.settle.ensures.accounts ∙ c.into_producer.ensures.sent)

pub returns-clause-settled : goal.returns-clause-settled
returns-clause-settled g c =
    let inlet = c.args.self.now in
    let within : c.args.sender < length inlet.ends.items = simp length-map at (slice_get_within _ c.args.sender _ c.requires) in
    receiving-settle inlet.turn inlet.ends.items c.args.sender c.settle.new.self c.index_mut.result.now within
    c.index_mut.ensures.value c.settle.ensures.ring c.settle.ensures.settled c.settle.ensures.untaken
