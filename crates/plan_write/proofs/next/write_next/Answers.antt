-- Each turn of the loop takes the line of one more start, up to the last requested one, or to the last one.
use Rattle.std.proofs.Common.{◌≡◌, ◌∷◌, ◌+◌, ◌∙◌, take, drop, sym, arith}
use Rattle.std.specs.List.{flat_map}
use Rattle.plan_sets.specs.Limits.{end_second}
use Rattle.plan_next.specs.Starts.{is_start, starts}
use Rattle.plan_next.specs.StartsLaws.{passing-least, passing-none}
use Rattle.plan_streams.proofs.StreamLemmas.{takes_both}
use Rattle.plan_write.specs.Next.{moment_line}
use Rattle.plan_write.proofs.NextLemmas.{listed_more, lists_all, lists_fewer}
use Rattle.plan_write.proofs.next.write_next.Goals as goal
use Rattle.std.proofs.lemmas.Bool.Decides.{nat_tests}

pub returns-in_default-clause-text : goal.returns-in_default-clause-text
returns-in_default-clause-text g c = grind (arith, nat_tests, passing-none, takes_both, lists_fewer)

pub loop-listed-preserved : goal.loop-listed-preserved
loop-listed-preserved g c =
    let all = starts c.args.rule.now (c.args.after + 1) end_second in
    let n = c.in-Some.moment in
    let next : drop c.loop-listed._listed all ≡ n ∷ starts c.args.rule.now (n + 1) end_second =
    sym c.loop-listed.invariant.1
    ∙ passing-least (is_start c.args.rule.now) (c.loop-listed.latest + 1) end_second n c.in-Some.ensures.least in
    let (line, rest, many) = listed_more c.args.format.now all (starts c.args.rule.now (n + 1) end_second) c.loop-listed._listed n next in (
      takes_both g.S.Stream.holds g.S.Stream.takes_all c.new-lines.result c.loop-listed.lines c.put_moment.new.lines
          (flat_map (moment_line c.args.format.now) (take c.loop-listed._listed all)) (moment_line c.args.format.now n)
          (flat_map (moment_line c.args.format.now) (take (c.loop-listed._listed + 1) all)) c.loop-listed.invariant.0
          c.put_moment.ensures line,
      rest,
      many,
    )

pub returns-clause-text : goal.returns-clause-text
returns-clause-text g c = grind (arith, nat_tests, lists_all)
