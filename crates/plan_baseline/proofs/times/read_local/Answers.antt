use Rattle.std.proofs.Common.{◌≡◌, ◌≢◌, ℕ, ◌+ℤ◌, ◌<◌, ◌≤◌, FitsSigned, IfNone, IfSome, ℤ, arith, nat_abs, negsuc, of_z, pos, subst, sym, to_z, to_z-of_z, w64, ◌∙◌}
use Rattle.std.proofs.lemmas.Int.{ints}
use Rattle.plan_sets.specs.Limits.{end_second}
use Rattle.plan_baseline.proofs.TimeLemmas.{found_local, local_length, none_local, parts_of}
use Rattle.plan_baseline.proofs.times.read_local.Goals as goal

-- an offset below 100 hours is kept in 64 bits
kept : (offset : ℤ) → nat_abs offset < 360000 → to_z w64 (of_z w64 offset) ≡ offset
kept (pos n) near =
    let fits : FitsSigned w64 (pos n) = omega (arith, ints, near) in
    to_z-of_z fits
kept (negsuc n) near =
    let fits : FitsSigned w64 (negsuc n) = omega (arith, ints, near) in
    to_z-of_z fits

pub returns-then-text-lt19-clause-none : goal.returns-then-text-lt19-clause-none
returns-then-text-lt19-clause-none c = λ n years is. omega (arith, local_length c.args.text.now n is, c.if-text-lt19.true)

pub returns-in_default-clause-none : goal.returns-in_default-clause-none
returns-in_default-clause-none c = λ n years is.
    let are = parts_of c.args.text.now c.split_at.result.0.now c.split_at.result.1.now n c.split_at.ensures.by_index.0
    c.split_at.ensures.front_len is in
    c.in_default.ensures.none are.shown are.years (c.with_z.ensures ∙ are.front_is)

pub returns-in_default-read_offset-clause-none : goal.returns-in_default-read_offset-clause-none
returns-in_default-read_offset-clause-none c = λ n years is.
    let are = parts_of c.args.text.now c.split_at.result.0.now c.split_at.result.1.now n c.split_at.ensures.by_index.0
    c.split_at.ensures.front_len is in
    c.in_default-read_offset.ensures.none are.offset are.near are.back_is

pub returns-clause-some : goal.returns-clause-some
returns-clause-some c =
    let shown = c.in-Some.shown in
    let offset = c.in-Some-read_offset.offset in
    let found = c.in-Some-read_offset.ensures.some in
    found_local c.args.text.now c.split_at.result.0.now c.split_at.result.1.now shown offset
    c.split_at.ensures.by_index.0 c.split_at.ensures.front_len (c.in-Some.ensures.some.0, sym c.with_z.ensures ∙ c.in-Some.ensures.some.1)
    found c.unshown.result
    (subst (λ z. IfSome c.unshown.result (λ n. (n ≤ end_second) × (pos shown ≡ pos n +ℤ z))) (kept offset found.0) c.unshown.ensures.some)

pub returns-clause-none : goal.returns-clause-none
returns-clause-none c =
    let shown = c.in-Some.shown in
    let offset = c.in-Some-read_offset.offset in
    let found = c.in-Some-read_offset.ensures.some in
    none_local c.args.text.now c.split_at.result.0.now c.split_at.result.1.now shown offset
    c.split_at.ensures.by_index.0 c.split_at.ensures.front_len (c.in-Some.ensures.some.0, sym c.with_z.ensures ∙ c.in-Some.ensures.some.1)
    found c.unshown.result
    (subst (λ z. IfNone c.unshown.result ((n : ℕ) → n ≤ end_second → pos shown ≢ pos n +ℤ z)) (kept offset found.0) c.unshown.ensures.none)
