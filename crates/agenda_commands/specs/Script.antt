-- What a run of a script writes. All of it is our choice (agenda).
use Rattle.std.specs.Prelude.{◌≡◌, ⊤, ℕ, List, length, Ok, Err}
use Rattle.plan_mailbox.specs.declared.replies.Reply.{Reply}
use Rattle.plan_mailbox.specs.Reply.{RepliesInTurn}
use Rattle.plan_mailbox.specs.History.{IsLawful, record_of}
use Rattle.plan_write.specs.Replies.{replies_text}
use Rattle.agenda_script.specs.Script.{Meaning, script_reading}
use Rattle.agenda_faults.specs.declared.faults.RunFault.{RunFault}
use Rattle.agenda_faults.specs.declared.faults.RunFault.TheVariants as run

-- the text of the replies to a script's steps on a new mailbox: there is one reply for each step, which
-- follows from the history of the steps before it; and the history that the replies record is lawful
abbrev pub IsTextOfRun : List ℕ → List ℕ → Type 0
IsTextOfRun script text =
    (meaning : Meaning) × (replies : List (Reply (List ℕ))) × (script_reading script ≡ Ok meaning)
    × (length replies ≡ length meaning.steps)
    × RepliesInTurn meaning.senders meaning.room meaning.steps replies
    × IsLawful meaning.senders meaning.room (record_of meaning.steps replies)
    × (text ≡ replies_text replies)

-- when a run of a script is rejected, and why
abbrev pub RejectsRun : List ℕ → RunFault → Type 0
RejectsRun script (run.Script fault) = script_reading script ≡ Err fault
RejectsRun script run.NoMemory = ⊤
RejectsRun script other = ⊥
