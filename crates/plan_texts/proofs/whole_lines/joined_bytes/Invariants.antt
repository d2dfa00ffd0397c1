use Rattle.std.proofs.Common.{◌≡◌, map}
use Rattle.plan_texts.specs.WholeLines.{numbered_texts, joined}
use Rattle.plan_texts.specs.Joining.{whole_with}
use Rattle.plan_texts.proofs.WholeLinesLemmas.{rest_from}
use Rattle.plan_texts.proofs.whole_lines.joined_bytes.Given as goal

abbrev pub invariant-loop-place : goal.invariant-loop-place
invariant-loop-place l =
    whole_with l.joiner (rest_from l.place (map (λ line. line.now) l.lines)) ≡ joined (numbered_texts (map (λ line. line.now) l.lines))
