use Rattle.std.proofs.Common.{take}
use Rattle.plan_streams.specs.Writer.{Takes}
use Rattle.plan_write.specs.Replies.{replies_text}
use Rattle.plan_write.proofs.replies.write_replies.Given as goal

-- the writer took the lines of all replies so far
abbrev pub invariant-loop-reply : goal.invariant-loop-reply
invariant-loop-reply g l =
    Takes g.S.Stream.holds g.S.Stream.takes_all l.initial.lines l.lines (replies_text (take l.reply-index l.replies))
