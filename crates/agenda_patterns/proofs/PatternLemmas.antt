-- Why it is enough to try the first place where the bytes of a pattern before a `*` fit.
--
-- The bytes are compared one by one. At each step, the whole name fits if the rest of it fits the rest of the pattern (`whole`), and some
-- end of it fits only if some end of that rest does (`some_end`). At the `*` any end will do, so both ask the same (`goes_on`).
use Rattle.std.proofs.Common.{◌≡◌, ℕ, ◌+◌, ◌<◌, ◌≤◌, Bool, true, false, ◌==◌, ◌||◌, List, [], ◌∷◌, length, drop, get_or, refl, ap, sym, ◌∙◌, arith}
use Rattle.std.proofs.lemmas.Bool.Decides.{nat_tests}
use Rattle.std.proofs.lemmas.List.{drop_more, length-drop}
use Rattle.std.specs.Str.{byte}
use Rattle.agenda_patterns.specs.Pattern.{any_suffix, begins_then, fits}
use Rattle.agenda_patterns.specs.Head.{GoesOn}

-- ---- ends of a name

-- the whole name is one of its ends
pub here : (test : List ℕ → Bool) (name : List ℕ) → test name ≡ true → any_suffix test name ≡ true
here test [] is = is
here test (b ∷ more) is = grind (arith, nat_tests)

-- an end of an end is an end
twice : (test : List ℕ → Bool) (name : List ℕ) → any_suffix (any_suffix test) name ≡ true → any_suffix test name ≡ true
twice test [] is = is
twice test (b ∷ more) is = grind (arith, nat_tests, twice test more)

-- ---- one byte of a pattern

no_star :
    (c : ℕ) (pattern name : List ℕ) → (c == byte "*") ≡ false → fits (c ∷ pattern) name ≡ begins_then c (fits pattern) name
no_star c pattern name star = rw star refl

-- the rest of a name fits, if the name does
step :
    (c : ℕ) (pattern : List ℕ) (b : ℕ) (name : List ℕ) → (c == byte "*") ≡ false → (c == byte "?" || c == b) ≡ true →
    fits (c ∷ pattern) (b ∷ name) ≡ fits pattern name
step c pattern b name star same = no_star c pattern (b ∷ name) star ∙ rw same refl

-- some end of the rest fits, if some end of the name does
end_step :
    (c : ℕ) (pattern : List ℕ) (b : ℕ) (name : List ℕ) → (c == byte "*") ≡ false → any_suffix (fits (c ∷ pattern)) (b ∷ name) ≡ true →
    any_suffix (fits pattern) name ≡ true
end_step c pattern b [] star is = grind (arith, nat_tests, no_star c pattern (b ∷ []) star, no_star c pattern [] star)
end_step c pattern b (next ∷ name) star is =
    grind (
      arith,
      nat_tests,
      no_star c pattern (b ∷ next ∷ name) star,
      here (fits pattern) (next ∷ name),
      end_step c pattern next name star,
    )

-- ---- the bytes of a pattern before a place fit the first bytes of a name

pub record Passed (pattern name : List ℕ) (at : ℕ) : Type 0 where
  pub within : at ≤ length name
  pub whole : fits pattern name ≡ fits (drop at pattern) (drop at name)
  pub some_end : any_suffix (fits pattern) name ≡ true → any_suffix (fits (drop at pattern)) (drop at name) ≡ true

pub passed_more :
    (pattern name : List ℕ) (at : ℕ) → at < length pattern → at < length name → (get_or pattern at 0 == byte "*") ≡ false →
    (get_or pattern at 0 == byte "?" || get_or pattern at 0 == get_or name at 0) ≡ true → Passed pattern name at →
    Passed pattern name (at + 1)
passed_more pattern name at inside within star same passed =
    let c = get_or pattern at 0 in
    let b = get_or name at 0 in
    let rest = drop (at + 1) pattern in
    let more = drop (at + 1) name in
    let cut_pattern : drop at pattern ≡ c ∷ rest = drop_more pattern at 0 inside in
    let cut_name : drop at name ≡ b ∷ more = drop_more name at 0 within in
    record {
      within = omega arith;
      whole = rw (cut_pattern, cut_name) at passed.whole ∙ step c rest b more star same;
      some_end = λ is. end_step c rest b more star (rw (cut_pattern, cut_name) at (passed.some_end is));
    }

both : (a b : Bool) → (a ≡ true → b ≡ true) → (b ≡ true → a ≡ true) → a ≡ b
both true b to from = sym (to refl)
both false true to from = from refl
both false false to from = refl

-- the first `*` is at that place
pub goes_on :
    (pattern name : List ℕ) (at : ℕ) → at < length pattern → get_or pattern at 0 ≡ byte "*" → Passed pattern name at →
    GoesOn pattern name (drop (at + 1) pattern) (drop at name)
goes_on pattern name at inside star passed =
    let rest = drop (at + 1) pattern in
    let cut : drop at pattern ≡ byte "*" ∷ rest = drop_more pattern at 0 inside ∙ ap (λ c. c ∷ rest) star in
    let whole : fits pattern name ≡ any_suffix (fits rest) (drop at name) = rw cut at passed.whole in
    record {
      shorter = omega (arith, length-drop (at + 1) pattern);
      within = omega (arith, length-drop at name);
      whole = whole;
      some_end = both _ _ (λ is. twice (fits rest) (drop at name) (rw cut at (passed.some_end is)))
          (λ is. here (fits pattern) name (whole ∙ is));
    }
