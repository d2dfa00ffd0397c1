-- The front of a file's text suffices.
use Rattle.std.proofs.Common.{◌≡◌, ℕ, ◌≤◌, Bool, true, false, inl, inr, List, [], length, take, Option, Some, None, refl, ap, sym, ◌∙◌, arith}
use Rattle.std.proofs.lemmas.Bool.{cases_lt}
use Rattle.std.proofs.lemmas.Bool.Decides.{nat_tests}
use Rattle.std.proofs.lemmas.List.{length-take-le, take_all}
use Rattle.std.specs.Option.{option_map}
use Rattle.plan_texts.specs.Lines.{is_too_large}
use Rattle.plan_texts.specs.WholeLines.{readable_lines}
use Rattle.plan_units.specs.Settings.{lines_of_found}

-- a text that is too large has no lines
none_of_large : (text : List ℕ) → is_too_large text ≡ true → readable_lines text ≡ []
unfolding readable_lines
none_of_large text large = rw large refl

-- one byte more than the most suffices
front_suffices : (text : List ℕ) → readable_lines (take 1048577 text) ≡ readable_lines text
front_suffices text =
    elim (cases_lt 1048577 (length text)) as (λ _. readable_lines (take 1048577 text) ≡ readable_lines text) [
      | inl more ↦
          let fits : 1048577 ≤ length text = omega arith in
          let long : length (take 1048577 text) ≡ 1048577 = length-take-le 1048577 text fits in
          let front : is_too_large (take 1048577 text) ≡ true = grind (arith, nat_tests) in
          let whole : is_too_large text ≡ true = grind (arith, nat_tests) in
          none_of_large (take 1048577 text) front ∙ sym (none_of_large text whole)
      | inr all ↦ ap readable_lines (take_all 1048577 text all)
    ]

pub front_of_found :
    (found bytes : Option (List ℕ)) → found ≡ option_map (take 1048577) bytes → lines_of_found found ≡ lines_of_found bytes
front_of_found found None is = ap lines_of_found is
front_of_found found (Some text) is = ap lines_of_found is ∙ front_suffices text
