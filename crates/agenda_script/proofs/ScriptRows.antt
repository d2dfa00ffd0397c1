-- Worked rows of scripts: what the definitions say about some examples.
-- They answer no goal of a function, but test `script_reading` and `step_on`. Each row is
-- computed, with the definitions that it needs unfolded.
use lib.Utf8.{encode}
use Rattle.std.proofs.Common.{◌≡◌, [], ◌∷◌, Ok, codes, refl}
use Rattle.std.specs.Str.{chars, is_utf8}
use Rattle.plan_mailbox.specs.declared.replies.Step.TheVariants.{Send, Take, Close}
use Rattle.plan_mailbox.specs.declared.replies.Reply.TheVariants.{Sent, Full, Closed, NoSender, Nothing, Ended, Shut, AlreadyShut, Unknown}
use Rattle.plan_texts.specs.Lines.{lines}
use Rattle.plan_texts.specs.Text.{cut_at, decimal_number}
use Rattle.agenda_script.specs.declared.fault.ScriptCause.TheVariants.{NotUtf8, BadLine, BadSize, TooManySteps}
use Rattle.agenda_script.specs.Script.{fault_on, lines_reading, mailbox_line, script_reading, send_of, size_reading, sizes_of, step_of, step_on}

two_steps : script_reading (codes "mailbox 2 16\nsend 1  a\nclose 0") ≡ Ok
    (record { senders = 2; room = 16; steps = Send 1 (codes " a") ∷ Close 0 ∷ [] })
unfolding script_reading lines_reading lines size_reading mailbox_line sizes_of step_on step_of send_of cut_at decimal_number is_utf8
    chars encode
two_steps = refl

no_bytes : script_reading [] ≡ fault_on 1 BadLine
unfolding script_reading lines_reading lines size_reading is_utf8 chars
no_bytes = refl

nine_senders : script_reading (codes "mailbox 9 1") ≡ fault_on 1 BadSize
unfolding script_reading lines_reading lines size_reading mailbox_line sizes_of step_on step_of send_of cut_at decimal_number is_utf8
    chars encode
nine_senders = refl

a_size_before_a_step : script_reading (codes "mailbox 9 1\nsend 0\n") ≡ fault_on 1 BadSize
unfolding script_reading lines_reading lines size_reading mailbox_line sizes_of step_on step_of send_of cut_at decimal_number is_utf8
    chars encode
a_size_before_a_step = refl

a_send_without_a_text : script_reading (codes "mailbox 1 1\nsend 0\n") ≡ fault_on 2 BadLine
unfolding script_reading lines_reading lines size_reading mailbox_line sizes_of step_on step_of send_of cut_at decimal_number is_utf8
    chars encode
a_send_without_a_text = refl

a_carriage_return : script_reading (codes "mailbox 1 1\ntake\r\n") ≡ fault_on 2 BadLine
unfolding script_reading lines_reading lines size_reading mailbox_line sizes_of step_on step_of send_of cut_at decimal_number is_utf8
    chars encode
a_carriage_return = refl

no_text : script_reading (255 ∷ []) ≡ fault_on 0 NotUtf8
unfolding script_reading is_utf8 chars
no_text = refl

a_bad_line_after_the_last_step : step_on 10002 (codes "give") ≡ fault_on 10002 TooManySteps
unfolding step_on
a_bad_line_after_the_last_step = refl

the_last_step : step_on 10001 (codes "take") ≡ Ok Take
unfolding step_on step_of
the_last_step = refl
