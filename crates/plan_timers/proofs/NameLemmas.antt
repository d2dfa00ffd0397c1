-- The bytes of a text with `-` for each `@`, character by character.
use Rattle.std.proofs.Common.{◌≡◌, ℕ, zero, suc, ◌<◌, ◌≤◌, inl, inr, List, [], ◌∷◌, ◌++◌, length, get_or, map, refl, ap, sym, ◌∙◌, append-nil, arith}
use Rattle.std.proofs.lemmas.Bool.{cases_lt}
use Rattle.std.proofs.lemmas.Bool.Decides.{nat_tests}
use Rattle.std.proofs.lemmas.List.{map-append}
use Rattle.std.proofs.lemmas.Str.{encode_ascii, inside_one}
use Rattle.std.specs.Char.{encode_utf8}
use Rattle.plan_timers.specs.Names.{dashed, job_of}

kept : (b : ℕ) → 128 ≤ b → dashed b ≡ b
kept b high = grind (arith, nat_tests)

low : (c : ℕ) → c < 128 → dashed c < 128
low c less = grind (arith, nat_tests)

each_kept : (bytes : List ℕ) → ((k : ℕ) → k < length bytes → 128 ≤ get_or bytes k 0) → map dashed bytes ≡ bytes
each_kept [] high = refl
each_kept (b ∷ more) high =
    let first : 128 ≤ b = high zero (omega arith) in
    let others : map dashed more ≡ more = each_kept more (λ k inside. high (suc k) (omega (arith, inside))) in
    ap (λ x. x ∷ map dashed more) (kept b first) ∙ ap (λ xs. b ∷ xs) others

-- the bytes of a character that isn't ASCII aren't either
all_high : (c : ℕ) → 128 ≤ c → (k : ℕ) → k < length (encode_utf8 c) → 128 ≤ get_or (encode_utf8 c) k 0
all_high c high k inside =
    elim (cases_lt (get_or (encode_utf8 c) k 0) 128) as (λ _. 128 ≤ get_or (encode_utf8 c) k 0) [
      | inl less ↦
          let same : c ≡ get_or (encode_utf8 c) k 0 = inside_one c [] (encode_utf8 c) k (sym (append-nil (encode_utf8 c))) inside less in
          absurd (omega (arith, same, less, high))
      | inr more ↦ more
    ]

of_one : (c : ℕ) → map dashed (encode_utf8 c) ≡ encode_utf8 (dashed c)
of_one c =
    elim (cases_lt c 128) as (λ _. map dashed (encode_utf8 c) ≡ encode_utf8 (dashed c)) [
      | inl less ↦ ap (map dashed) (encode_ascii c less) ∙ sym (encode_ascii (dashed c) (low c less))
      | inr high ↦ each_kept (encode_utf8 c) (all_high c high) ∙ ap encode_utf8 (sym (kept c high))
    ]

-- a text that begins with a character
pub job_of_next : (c : ℕ) (rest : List ℕ) → job_of (encode_utf8 c ++ rest) ≡ encode_utf8 (dashed c) ++ job_of rest
job_of_next c rest = map-append dashed (encode_utf8 c) rest ∙ ap (λ bytes. bytes ++ job_of rest) (of_one c)

pub job_of_empty : (text : List ℕ) → length text ≡ 0 → job_of text ≡ []
job_of_empty [] none = refl
job_of_empty (b ∷ more) none = absurd (omega (arith, none))
