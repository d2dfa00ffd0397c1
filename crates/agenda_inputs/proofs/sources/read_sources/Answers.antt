-- Answers the clauses of `read_sources` and the invariant of its loop, by the lemmas of TriedLemmas.antt.
use Rattle.std.proofs.Common.{◌+◌, ◌<◌, ◌∙◌, Ok, ap, arith, length, refl, subst, sym, take}
use Rattle.agenda_faults.specs.declared.faults.Failure.TheVariants.{Run}
use Rattle.agenda_faults.specs.declared.faults.RunFault.TheVariants as run
use Rattle.agenda_inputs.specs.declared.sources.Tried.{Tried}
use Rattle.agenda_inputs.specs.Opened.{source_files}
use Rattle.agenda_inputs.specs.Sources.{tried_of, tries_of, with_last}
use Rattle.agenda_inputs.proofs.OpenedLemmas.{all_opened, none_more, opened_at, opened_up_to, sources_join}
use Rattle.agenda_inputs.proofs.StepLemmas.{passed_on}
use Rattle.agenda_inputs.proofs.TriedLemmas.{memory_fails, tries_fail_at, tries_none, tries_up_to}
use Rattle.agenda_inputs.proofs.sources.read_sources.Goals as goal

pub loop-path-init : goal.loop-path-init
loop-path-init g c =
    record {
      so_far = rw (c.new-sources.ensures.items, c.new-paths.ensures, c.new-unread.ensures)
          (tries_none c.args.keep_going (g.F.Files.held c.args.files.now));
      same = refl;
      opened = none_more (g.F.Files.opened c.args.files.now);
    }

pub returns-in_err-source-clause-read : goal.returns-in_err-source-clause-read
returns-in_err-source-clause-read g c =
    let held = g.F.Files.held c.args.files.now in
    let keeps = c.args.keep_going in
    let within : c.loop-path.path-index < length c.args.given.now = omega arith in
    passed_on (tries_of keeps held c.args.given.now) _ _ (tries_fail_at keeps held c.args.given.now _ c.loop-path.path-index
    c.path-item.result _ c.loop-path.invariant.so_far within
    (rw (c.path-item.is, c.loop-path.invariant.same) at c.in_err-source.ensures.read)) c.from_residual.ensures.1

pub returns-in_err-source-clause-first : goal.returns-in_err-source-clause-first
returns-in_err-source-clause-first g c =
    let within : c.loop-path.path-index < length c.args.given.now = omega arith in
    opened_at source_files sources_join c.args.given.now c.loop-path.path-index c.path-item.result _ _ _ within
    c.loop-path.invariant.opened (rw c.path-item.is at c.in_err-source.ensures.first)

pub returns-in_err-copy-clause-read : goal.returns-in_err-copy-clause-read
returns-in_err-copy-clause-read g c =
    let held = g.F.Files.held c.args.files.now in
    let keeps = c.args.keep_going in
    let within : c.loop-path.path-index < length c.args.given.now = omega arith in
    passed_on (tries_of keeps held c.args.given.now) _ (Run run.NoMemory) (tries_fail_at keeps held c.args.given.now _
    c.loop-path.path-index c.path-item.result _ c.loop-path.invariant.so_far within (memory_fails keeps held _))
    c.from_residual-in_err-copy.ensures.1

pub returns-in_err-copy-clause-first : goal.returns-in_err-copy-clause-first
returns-in_err-copy-clause-first g c =
    let within : c.loop-path.path-index < length c.args.given.now = omega arith in
    opened_at source_files sources_join c.args.given.now c.loop-path.path-index c.path-item.result _ _ _ within
    c.loop-path.invariant.opened (all_opened _ _ _ (rw c.path-item.is at c.in_ok-source.ensures.opens))

pub returns-in_err-add_tried-clause-read : goal.returns-in_err-add_tried-clause-read
returns-in_err-add_tried-clause-read g c =
    let held = g.F.Files.held c.args.files.now in
    let keeps = c.args.keep_going in
    let within : c.loop-path.path-index < length c.args.given.now = omega arith in
    passed_on (tries_of keeps held c.args.given.now) _ _ (rw c.in_err-add_tried.ensures.memory
    (tries_fail_at keeps held c.args.given.now _ c.loop-path.path-index c.path-item.result (Run run.NoMemory)
    c.loop-path.invariant.so_far within (memory_fails keeps held _))) c.from_residual-in_err-add_tried.ensures.1

pub returns-in_err-add_tried-clause-first : goal.returns-in_err-add_tried-clause-first
returns-in_err-add_tried-clause-first g c =
    let within : c.loop-path.path-index < length c.args.given.now = omega arith in
    opened_at source_files sources_join c.args.given.now c.loop-path.path-index c.path-item.result _ _ _ within
    c.loop-path.invariant.opened (all_opened _ _ _ (rw c.path-item.is at c.in_ok-source.ensures.opens))

pub loop-path-preserved : goal.loop-path-preserved
loop-path-preserved g c =
    let held = g.F.Files.held c.args.files.now in
    let keeps = c.args.keep_going in
    let given = c.args.given.now in
    let within : c.loop-path.path-index < length given = omega arith in
    let old : Tried = record { sources = c.loop-path.sources.items; paths = c.loop-path.paths; unread = c.loop-path.unread } in
    let source = c.in_ok-source.source in
    record {
      so_far = subst (λ t. tries_of keeps held (take (c.loop-path.path-index + 1) given) (Ok t))
          (sym (c.in_ok-add_tried.ensures.added ∙ ap (λ p. with_last old p source) (c.in_ok-copy.ensures ∙ c.path-item.is)))
          (tries_up_to keeps held given old c.loop-path.path-index c.path-item.result source c.loop-path.invariant.so_far within
          (subst (λ p. tried_of keeps held p (Ok source)) c.path-item.is
          (subst (λ h. tried_of keeps h c.path-item.result (Ok source)) c.loop-path.invariant.same c.in_ok-source.ensures.read)));
      same = c.in_ok-source.ensures.same ∙ c.loop-path.invariant.same;
      opened = opened_up_to source_files sources_join given c.loop-path.path-index c.path-item.result _ _ _ within
          c.loop-path.invariant.opened (rw c.path-item.is at c.in_ok-source.ensures.opens);
    }
