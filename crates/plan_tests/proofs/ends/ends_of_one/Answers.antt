-- For `ends_of_one`: a mailbox of one sender has one outlet, so the one that `pop` returns is the only one
-- (`one_left`).
-- The outlets of a split are new. The first new outlet is that of sender 0, has the first ring, and sent nothing.
use Rattle.std.proofs.Common.{◌≡◌, List, [], ◌∷◌, ◌++◌, length, map, Some, sym, ap, ◌∙◌, arith}
use Rattle.std.specs.List.{slice_get}
use Rattle.std.specs.Prelude.{option_map}
use Rattle.std.proofs.lemmas.List.{length-append}
use Rattle.plan_mailbox.specs.declared.outlet.Outlet.{Outlet}
use Rattle.plan_mailbox.specs.Ends.{Ring, new_outlets, outlet_of}
use Rattle.plan_mailbox.specs.Mailbox.{senders_of}
use Rattle.plan_mailbox.specs.Splits.{rings_of}
use Rattle.plan_tests.proofs.ends.ends_of_one.Goals as goal

-- a list of one, from its end
one_left : {A : Type 0} (all middle : List A) (a : A) → length all ≡ 1 → all ≡ middle ++ a ∷ [] → all ≡ a ∷ []
one_left all [] a n e = e
one_left all (x ∷ middle) a n e = absurd (omega (arith, n, ap length e, length-append middle (a ∷ [])))

-- the first of a list, or another value
first_or : {A : Type 0} → A → List A → A
first_or other [] = other
first_or other (x ∷ xs) = x

-- the one new outlet is that of sender 0, has the first ring, and sent nothing
one_new :
    {M : Type 0} (a : Outlet M) (rings : List Ring) → outlet_of a ∷ [] ≡ new_outlets rings →
    ((outlet_of a).sender ≡ 0) × (slice_get rings 0 ≡ Some (outlet_of a).ring) × ((outlet_of a).sent ≡ [])
unfolding first_or
one_new a [] e = absurd (cc)
one_new a (r ∷ rest) e = (
  ap (λ xs. (first_or (outlet_of a) xs).sender) e,
  sym (ap (λ xs. option_map (λ o. o.ring) (slice_get xs 0)) e),
  ap (λ xs. (first_or (outlet_of a) xs).sent) e,
)

pub returns : goal.returns
returns g c =
    let all = one_left _ _ _ (omega (arith, c.in-Ok.ensures.as_many, ap senders_of c.in_ok-rings.ensures.made, c.in-Ok.outlets.ok))
    c.in-Some.ensures.items in
    let one = one_new c.in-Some.outlet (rings_of c.in_ok-rings.rings) (sym (ap (map outlet_of) all) ∙ c.in-Ok.ensures.outlets) in
    (one.0, ap (λ b. slice_get b.rings 0) c.in-Ok.ensures.inlet ∙ one.1, one.2)
