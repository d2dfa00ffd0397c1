use Rattle.std.proofs.Common.{◌<◌, length, None, Some, sym, arith}
use Rattle.plan_cron.proofs.LinesLemmas.{first_beyond-from, found_after, no_line_beyond, none_after}
use Rattle.plan_cron.proofs.lines.first_beyond.Goals as goal

pub returns-then-lines-le-LAST_LINE : goal.returns-then-lines-le-LAST_LINE
returns-then-lines-le-LAST_LINE c = sym (no_line_beyond (λ line. line.now) c.args.lines.now c.if-lines-le-LAST_LINE.true)

pub returns-then-unread-beyond : goal.returns-then-unread-beyond
returns-then-unread-beyond c =
    sym (first_beyond-from (λ line. line.now) c.args.lines.now c.after_last_line-beyond.result.now None c.after_last_line-beyond.ensures.lines
    (none_after (λ line. line.now) c.after_last_line-beyond.result.now c.unread_in_front-unread.result
    c.unread_in_front-unread.ensures.count c.if-unread-beyond.true))

pub returns : goal.returns
returns c =
    let inside : c.unread_in_front-unread.result < length c.after_last_line-beyond.result.now =
    omega (arith, c.unread_in_front-unread.ensures.inside, c.if-unread-beyond.false) in
    sym (first_beyond-from (λ line. line.now) c.args.lines.now c.after_last_line-beyond.result.now
    (Some c.unread_in_front-unread.result) c.after_last_line-beyond.ensures.lines
    (found_after (λ line. line.now) c.after_last_line-beyond.result.now c.unread_in_front-unread.result
    c.unread_in_front-unread.ensures.count inside))
