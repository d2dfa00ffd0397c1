use Rattle.std.proofs.Common.{◌≡◌, Option, Some, length, refl, subst, sym}
use Rattle.std.specs.Prelude.{slice_get}
use Rattle.std.proofs.lemmas.Option.{slice_get_read}
use Rattle.plan_streams.specs.Writer.{Takes}
use Rattle.agenda_sources.specs.declared.SourcePath.{SourcePath}
use Rattle.agenda_findings.specs.Findings.{finding_in, found_line}
use Rattle.agenda_findings.proofs.findings.put_found.Goals as goal

pub returns-in-Some : goal.returns-in-Some
returns-in-Some g c =
    let taken = Takes g.S.Stream.holds g.S.Stream.takes_all c.args.lines.now c.put_finding.new.lines in
    let found = c.in-Some.ensures.lookup in
    let there : Some c.in-Some.source.now ≡ slice_get c.args.paths.now c.args.one.now.place =
    sym (slice_get_read c.args.paths.now (length c.args.paths.now) c.args.one.now.place c.in-Some.source.now refl found.3.0 found.1) in
    subst (λ (source : Option SourcePath). taken (found_line c.args.json source c.args.one.now.finding)) there
    (subst taken (λ i. finding_in c.args.json (c.as_str.ensures i) c.in-Some.source.now.kind c.args.one.now.finding) c.put_finding.ensures)
