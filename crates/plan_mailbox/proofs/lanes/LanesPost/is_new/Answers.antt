-- For `unused` and `new` of `Lanes::is_new`, if no message was sent. Then both depend on whether any lane is closed. For
-- `new` nothing may wait either: what waits in a lane was sent (`waits_sent`), and by the type's `unused` nothing was.
-- The turn is 0 by the type's `begins`.
use Rattle.std.proofs.Common.{◌≡◌, true, false, not, [], length, get_or, replicate, refl, ap, sym, ◌∙◌, subst, arith}
use Rattle.std.specs.List.{list_any, AllPass}
use Rattle.std.proofs.lemmas.Bool.{not-true, not_from_false}
use Rattle.std.proofs.lemmas.List.{nil_from_length, length-map}
use Rattle.std.proofs.lemmas.List.Elements.{All-replicate}
use Rattle.std.specs.Prelude.{map}
use Rattle.plan_mailbox.specs.Lanes.{mailbox_of}
use Rattle.plan_mailbox.specs.Mailbox.{senders_of}
use Rattle.plan_mailbox.proofs.Places.{map_replicate}
use Rattle.plan_mailbox.proofs.Calls.{IsNew-from, list_any-map, none_closed, none_closed-pass, none_closed-replicate}
use Rattle.plan_mailbox.proofs.lanes.LanesPost.is_new.Goals as goal

pub returns-then-not-self-clause-unused : goal.returns-then-not-self-clause-unused
returns-then-not-self-clause-unused g c =
    let lanes = c.args.self.now.lanes in
    let marks = map g.L.Lane.closed lanes.items in
    let unsent : c.args.self.now.has_sent ≡ false = c.if-not-self.true in
    let told : list_any (λ b. b) marks ≡ c.any_closed.result = list_any-map g.L.Lane.closed lanes.items ∙ ap
    (list_any g.L.Lane.closed) (sym c.deref.ensures.value) ∙ sym c.any_closed.ensures in (
      λ none. (
        unsent,
        subst (AllPass not) (sym (none_closed marks (told ∙ not-true _ none)))
            (All-replicate (λ b. not b ≡ true) (length marks) false refl),
      ),
      λ unused. not_from_false _ (sym told ∙ none_closed-pass marks unused.1),
    )

pub returns-then-not-self-clause-new : goal.returns-then-not-self-clause-new
returns-then-not-self-clause-new g c =
    let mailbox = c.args.self.now in
    let before = mailbox_of mailbox in
    let lanes = mailbox.lanes in
    let marks = map g.L.Lane.closed lanes.items in
    let unsent : mailbox.has_sent ≡ false = c.if-not-self.true in
    let told : list_any (λ b. b) marks ≡ c.any_closed.result = list_any-map g.L.Lane.closed lanes.items ∙ ap
    (list_any g.L.Lane.closed) (sym c.deref.ensures.value) ∙ sym c.any_closed.ensures in
    let many = length-map lanes.items g.L.Lane.waiting in (
      λ none.
          let nothing_waits = map_replicate g.L.Lane.waiting [] lanes.items (senders_of before) (sym many)
          (λ k d h. nil_from_length _ (omega (arith, g.met.L.Lane.waits_sent (get_or lanes.items k d), mailbox.unused unsent k d h))) in
          let none_closed = none_closed marks (told ∙ not-true _ none) ∙ ap (λ n. replicate n false)
          (length-map lanes.items g.L.Lane.closed ∙ sym many) in
          IsNew-from before nothing_waits none_closed (mailbox.begins unsent) unsent,
      λ new. not_from_false _ (sym told ∙ ap (λ b. list_any (λ x. x) b.closed) new ∙ none_closed-replicate (senders_of before)),
    )
