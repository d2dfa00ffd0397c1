-- The text of a mailbox's replies to the steps of a script (agenda).
use Rattle.std.specs.Prelude.{ℕ, List, ◌++◌, codes, decimal}
use Rattle.std.specs.List.{flat_map}
use Rattle.plan_mailbox.specs.declared.replies.Reply.{Reply}
use Rattle.plan_mailbox.specs.declared.replies.Reply.TheVariants.{Sent, Full, Closed, NoSender, Took, Nothing, Ended, Shut, AlreadyShut, Unknown}

-- the line of a reply
abbrev pub reply_line : Reply (List ℕ) → List ℕ
reply_line Sent = codes "sent\n"
reply_line (Full text) = codes "full " ++ (text ++ codes "\n")
reply_line (Closed text) = codes "closed " ++ (text ++ codes "\n")
reply_line (NoSender text) = codes "no sender " ++ (text ++ codes "\n")
reply_line (Took sender text) = codes "took " ++ (decimal sender ++ (codes " " ++ (text ++ codes "\n")))
reply_line Nothing = codes "nothing\n"
reply_line Ended = codes "ended\n"
reply_line Shut = codes "shut\n"
reply_line AlreadyShut = codes "already shut\n"
reply_line Unknown = codes "unknown\n"

-- one line for each reply
abbrev pub replies_text : List (Reply (List ℕ)) → List ℕ
replies_text replies = flat_map reply_line replies
