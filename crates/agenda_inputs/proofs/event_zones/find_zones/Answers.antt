-- Answers the clause of `find_zones` and the invariant of its loop, by the lemmas of EventZonesLemmas.antt.
use Rattle.std.proofs.Common.{◌≡◌, ◌<◌, ◌≤◌, ◌∙◌, Ok, [], ap, arith, get_or, length, refl, subst}
use Rattle.std.proofs.lemmas.List.{take_all}
use Rattle.agenda_faults.specs.declared.faults.Failure.TheVariants.{Run}
use Rattle.agenda_faults.specs.declared.faults.RunFault.TheVariants as run
use Rattle.agenda_inputs.specs.EventZones.{found_zones, is_given}
use Rattle.agenda_inputs.specs.Opened.{OpensFirst, files_of_names, followed_by}
use Rattle.agenda_inputs.specs.Steps.{goes}
use Rattle.agenda_inputs.proofs.EventZonesLemmas.{found_fail_at, found_fails, found_none, found_up_to}
use Rattle.agenda_inputs.proofs.OpenedLemmas.{names_join, none_more, one_name, opened_at, opened_so_far, opened_up_to}
use Rattle.agenda_inputs.proofs.StepLemmas.{failed}
use Rattle.agenda_inputs.proofs.event_zones.find_zones.Goals as goal

pub loop-place-init : goal.loop-place-init
loop-place-init g c = record {
  so_far = rw c.new-known.ensures.items (found_none (g.F.Files.held c.args.files.now) c.args.given.now c.args.clock.now);
  same = refl;
  opened = none_more (g.F.Files.opened c.args.files.now);
}

pub returns-in_err-zone-clause-read : goal.returns-in_err-zone-clause-read
returns-in_err-zone-clause-read g c =
    let within : c.loop-place.place < length c.args.names.now = omega (arith, c.loop-place-test.true, c.len-place-end.ensures) in
    failed _ _ (found_fail_at (g.F.Files.held c.args.files.now) c.args.given.now c.args.clock.now c.args.names.now
    c.loop-place.known.items c.loop-place.place _ c.loop-place.invariant.so_far within
    (rw c.loop-place.invariant.same at c.in_err-zone.ensures.read)) c.from_residual.ensures.1

pub returns-in_err-add_zone-clause-read : goal.returns-in_err-add_zone-clause-read
returns-in_err-add_zone-clause-read g c =
    let held = g.F.Files.held c.args.files.now in
    let name = get_or c.args.names.now c.loop-place.place [] in
    let within : c.loop-place.place < length c.args.names.now = omega (arith, c.loop-place-test.true, c.len-place-end.ensures) in
    failed _ _ (rw c.in_err-add_zone.ensures.memory (found_fail_at held c.args.given.now c.args.clock.now c.args.names.now
    c.loop-place.known.items c.loop-place.place (Run run.NoMemory) c.loop-place.invariant.so_far within
    (found_fails (is_given c.args.given.now name) held c.args.clock.now name))) c.from_residual-in_err-add_zone.ensures.1

pub loop-place-preserved : goal.loop-place-preserved
loop-place-preserved g c =
    let within : c.loop-place.place < length c.args.names.now = omega (arith, c.loop-place-test.true, c.len-place-end.ensures) in
    record {
      so_far = rw c.in_ok-add_zone.ensures.added (found_up_to (g.F.Files.held c.args.files.now) c.args.given.now c.args.clock.now
          c.args.names.now c.loop-place.known.items c.loop-place.place c.in_ok-zone.zone c.loop-place.invariant.so_far within
          (rw c.loop-place.invariant.same at c.in_ok-zone.ensures.read));
      same = c.in_ok-zone.ensures.same ∙ c.loop-place.invariant.same;
      opened = opened_up_to (files_of_names c.args.given.now) (names_join c.args.given.now) c.args.names.now c.loop-place.place [] _ _ _
          within c.loop-place.invariant.opened
          (subst (λ fs. g.F.Files.opened c.zone_at.new.files ≡ followed_by (g.F.Files.opened c.loop-place.files) fs)
          (one_name c.args.given.now (get_or c.args.names.now c.loop-place.place [])) c.in_ok-zone.ensures.opens);
    }

pub returns-clause-read : goal.returns-clause-read
returns-clause-read g c =
    let past : length c.args.names.now ≤ c.loop-place.place = omega (arith, c.loop-place-test.false, c.len-place-end.ensures) in
    goes _ (subst (λ names. found_zones (g.F.Files.held c.args.files.now) c.args.given.now c.args.clock.now names
    (Ok c.loop-place.known.items)) (take_all c.loop-place.place c.args.names.now past) c.loop-place.invariant.so_far)
    (ap Ok c.new.ensures)

pub returns-in_err-zone-clause-first : goal.returns-in_err-zone-clause-first
returns-in_err-zone-clause-first g c =
    let within : c.loop-place.place < length c.args.names.now = omega (arith, c.loop-place-test.true, c.len-place-end.ensures) in
    opened_at (files_of_names c.args.given.now) (names_join c.args.given.now) c.args.names.now c.loop-place.place [] _ _ _ within
    c.loop-place.invariant.opened (subst (λ fs. OpensFirst fs (g.F.Files.opened c.loop-place.files) (g.F.Files.opened c.zone_at.new.files))
    (one_name c.args.given.now (get_or c.args.names.now c.loop-place.place [])) c.in_err-zone.ensures.first)

pub returns-in_err-add_zone-clause-first : goal.returns-in_err-add_zone-clause-first
returns-in_err-add_zone-clause-first g c =
    let within : c.loop-place.place < length c.args.names.now = omega (arith, c.loop-place-test.true, c.len-place-end.ensures) in
    opened_at (files_of_names c.args.given.now) (names_join c.args.given.now) c.args.names.now c.loop-place.place [] _ _ _ within
    c.loop-place.invariant.opened (subst (λ fs. OpensFirst fs (g.F.Files.opened c.loop-place.files) (g.F.Files.opened c.zone_at.new.files))
    (one_name c.args.given.now (get_or c.args.names.now c.loop-place.place [])) c.in_ok-zone.ensures.first)

pub returns-clause-opens : goal.returns-clause-opens
returns-clause-opens g c =
    let past : length c.args.names.now ≤ c.loop-place.place = omega (arith, c.loop-place-test.false, c.len-place-end.ensures) in
    subst (λ names. g.F.Files.opened c.loop-place.files
    ≡ followed_by (g.F.Files.opened c.args.files.now) (files_of_names c.args.given.now names))
    (take_all c.loop-place.place c.args.names.now past) c.loop-place.invariant.opened

pub returns-clause-first : goal.returns-clause-first
returns-clause-first g c =
    opened_so_far (files_of_names c.args.given.now) (names_join c.args.given.now) c.args.names.now c.loop-place.place _ _
    c.loop-place.invariant.opened
