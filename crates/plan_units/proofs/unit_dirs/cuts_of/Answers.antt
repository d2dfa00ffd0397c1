-- A text is cut after a `-`, which is an ASCII character.
use Rattle.std.proofs.Common.{◌≡◌, ◌≢◌, ◌-◌, ◌<◌, ◌++◌, ◌∷◌, [], ℕ, List, Bor, length, map, slice_index_or, ap, ◌∙◌, arith}
use Rattle.std.proofs.lemmas.List.{map-append}
use Rattle.std.proofs.lemmas.Str.{IsCharBoundary-after_ascii}
use Rattle.plan_units.specs.UnitDirs.{cuts_below, cuts_of}
use Rattle.plan_units.proofs.UnitDirLemmas.{cut_taken, cuts_done}
use Rattle.plan_units.proofs.unit_dirs.cuts_of.Goals as goal

pub range-requires-clause-end_boundary : goal.range-requires-clause-end_boundary
range-requires-clause-end_boundary c =
    let place = c.loop-place.place - 1 in
    let dash : slice_index_or c.args.text.now place 0 ≡ 45 = rw c.as_bytes.ensures.value at c.if-as_bytes-place-eq45.true in
    let inside : place < length c.args.text.now = omega (arith, c.loop-place.invariant.inside, c.loop-place-test.true) in
    let ascii : slice_index_or c.args.text.now place 0 < 128 = omega (arith, dash) in
    IsCharBoundary-after_ascii c.args.text.now place c.utf8.text inside ascii

pub loop-place-preserved-then-as_bytes-place-eq45 : goal.loop-place-preserved-then-as_bytes-place-eq45
loop-place-preserved-then-as_bytes-place-eq45 c =
    let now : Bor (List ℕ) → List ℕ = λ cut. cut.now in
    let dash : slice_index_or c.args.text.now (c.loop-place.place - 1) 0 ≡ 45 =
    rw c.as_bytes.ensures.value at c.if-as_bytes-place-eq45.true in
    let some : c.loop-place.place ≢ 0 = omega (arith, c.loop-place-test.true) in
    record {
      inside = omega (arith, c.loop-place.invariant.inside);
      left = ap (λ xs. xs ++ cuts_below c.args.text.now (c.loop-place.place - 1))
          (ap (map now) c.in_ok-push.ensures.items ∙ map-append now c.loop-place.cuts.items (c.range.result ∷ []))
          ∙ cut_taken c.args.text.now c.loop-place.place (map now c.loop-place.cuts.items) (cuts_of c.args.text.now) c.range.result.now some
          c.if-place-gt0.true dash c.range.ensures.value c.loop-place.invariant.left;
    }

pub returns : goal.returns
returns c =
    cuts_done c.args.text.now c.loop-place.place (map (λ cut. cut.now) c.loop-place.cuts.items) (cuts_of c.args.text.now)
    c.loop-place-test.false c.loop-place.invariant.left
