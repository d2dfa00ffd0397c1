-- A worked row of the text of replies. It answers no goal of a function, but tests `replies_text`.
use Rattle.std.proofs.Common.{◌≡◌, [], ◌∷◌, codes, refl}
use Rattle.plan_mailbox.specs.declared.replies.Reply.TheVariants.{Sent, Full, Closed, NoSender, Nothing, Ended, Shut, AlreadyShut, Unknown}
use Rattle.plan_write.specs.Replies.{replies_text}

replies_without_a_number : replies_text
    (Sent ∷ Full (codes "c") ∷ Closed (codes "e") ∷ NoSender (codes " x") ∷ Nothing ∷ Ended ∷ Shut ∷ AlreadyShut ∷ Unknown ∷ [])
    ≡ codes "sent\nfull c\nclosed e\nno sender  x\nnothing\nended\nshut\nalready shut\nunknown\n"
replies_without_a_number = refl
