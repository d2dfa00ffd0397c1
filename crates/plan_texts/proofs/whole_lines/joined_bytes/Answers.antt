use Rattle.std.proofs.Common.{◌≡◌, ◌+◌, ◌≤◌, [], length, map, refl, ap, sym, ◌∙◌, arith}
use Rattle.std.proofs.lemmas.Bool.Decides.{nat_tests}
use Rattle.std.proofs.lemmas.Grind.{common_steps}
use Rattle.std.proofs.lemmas.Result.{IfOk-weaker}
use Rattle.plan_texts.specs.WholeLines.{before_bad, joined, numbered_texts, whole_text}
use Rattle.plan_texts.specs.Joining.{whole_with, with_raw_line}
use Rattle.plan_texts.proofs.ReadableLemmas.{ended, stopped}
use Rattle.plan_texts.proofs.WholeLinesLemmas.{rest_from, rest_more}
use Rattle.plan_texts.proofs.whole_lines.joined_bytes.Goals as goal
use Rattle.plan_texts.proofs.whole_lines.joined_bytes.Goals.{in-Ok+in_ok-add-in-Ok, in-Err}

pub returns-in-Err-2 : goal.returns-in-Err-2
returns-in-Err-2 c =
    let place = c.loop-place.place in
    let lines = map (λ line. line.now) c.args.lines.now in
    let more = rest_more (λ line. line.now) c.args.lines.now place _ c.loop-place-test.true in
    sym (ap before_bad (sym c.loop-place.invariant ∙ ap (whole_with c.loop-place.joiner) more)
    ∙ stopped c.loop-place.joiner (place + 1) _ (rest_from (place + 1) lines) c.in-Err-2.ensures.cases.0 (sym c.if-is_comment_line.ensures))

pub loop-place-preserved : goal.loop-place-preserved
loop-place-preserved c =
    let place = c.loop-place.place in
    let joiner = c.loop-place.joiner in
    let rest = rest_from (place + 1) (map (λ line. line.now) c.args.lines.now) in
    let more = ap (whole_with joiner) (sym (rest_more (λ line. line.now) c.args.lines.now place _ c.loop-place-test.true)) ∙ c.loop-place.invariant in
    elim c.match-from_utf8.branch [
      | in-Ok+in_ok-add-in-Ok w ↦
          ap (λ state. whole_with state rest) w.joiner-is ∙ w.in_ok-add-in-Ok.ensures rest
          ∙ ap (λ line. whole_with joiner (with_raw_line (place + 1) line rest)) w.in-Ok.ensures.cases.0 ∙ more
      | in-Err w ↦
          ap (λ state. whole_with state rest) w.joiner-is
          ∙ rw (sym w.if-is_comment_line.ensures) refl ∙ more
    ]

pub returns : goal.returns
returns c =
    let all = map (λ line. line.now) c.args.lines.now in
    let past : length all ≤ c.loop-place.place = grind (arith, nat_tests, common_steps) in
    IfOk-weaker c.end.result (λ whole. map whole_text whole.items ≡ whole_with c.loop-place.joiner []) (λ whole. map whole_text whole.items ≡ before_bad (joined (numbered_texts all)))
    (λ whole is. ended c.loop-place.joiner c.loop-place.place all (joined (numbered_texts all)) whole.items past c.loop-place.invariant is) c.end.ensures
