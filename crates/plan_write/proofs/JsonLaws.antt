-- A string is read back as the text that it was made of: byte by byte (`reads`), and then by induction.
use Rattle.std.proofs.Common.{◌≡◌, ℕ, zero, suc, ◌<◌, ◌≤◌, inl, inr, List, [], ◌∷◌, ◌++◌, Some, refl, sym, subst, arith, append_assoc, rules}
use Rattle.std.specs.Prelude.{⊤}
use Rattle.std.specs.Char.{encode_utf8}
use Rattle.std.proofs.lemmas.Bool.{cases_eq, cases_lt, ne_eqb, le-ltb}
use Rattle.plan_write.proofs.JsonLemmas.{printed_byte}
use Rattle.plan_write.specs.Json.{before_rest, between, json_byte, json_bytes, read_string}
use Rattle.std.proofs.lemmas.Bool.Decides.{nat_tests}

-- a byte is read back, whatever follows it
abbrev IsRead : ℕ → Type 0
IsRead b = (rest : List ℕ) → read_string between (json_byte b ++ rest) ≡ before_rest (b ∷ []) (read_string between rest)

-- a statement about all numbers below n
abbrev Below : (ℕ → Type 0) → ℕ → Type 0
Below P zero = ⊤
Below P (suc n) = P n × Below P n

at_below : (P : ℕ → Type 0) (n : ℕ) → Below P n → (b : ℕ) → b < n → P b
at_below P zero all b lt = absurd (omega arith)
at_below P (suc n) all b lt = elim (cases_eq b n) as (λ _. P b) [
  | inl is ↦ subst P (sym is) all.0
  | inr not ↦ at_below P n all.1 b (omega arith)
]

control_characters : Below IsRead 32
unfolding json_byte read_string encode_utf8
control_characters = search rules depth 40

quote : IsRead 34
unfolding json_byte read_string
quote = λ r. refl

backslash : IsRead 92
unfolding json_byte read_string
backslash = λ r. refl

delete : IsRead 127
unfolding json_byte read_string encode_utf8
delete = λ r. refl

other : (b : ℕ) → (b ≡ 34 → ⊥) → (b ≡ 92 → ⊥) → (b ≡ 127 → ⊥) → 32 ≤ b → IsRead b
unfolding read_string
other b no_quote no_backslash no_delete printed rest = grind (arith, nat_tests, printed_byte, ne_eqb, le-ltb)

reads : (b : ℕ) → IsRead b
reads b = elim (cases_eq b 34) as (λ _. IsRead b) [
  | inl is ↦ subst IsRead (sym is) quote
  | inr no_quote ↦ elim (cases_eq b 92) as (λ _. IsRead b) [
    | inl is ↦ subst IsRead (sym is) backslash
    | inr no_backslash ↦ elim (cases_eq b 127) as (λ _. IsRead b) [
      | inl is ↦ subst IsRead (sym is) delete
      | inr no_delete ↦ elim (cases_lt b 32) as (λ _. IsRead b) [
        | inl control ↦ at_below IsRead 32 control_characters b control
        | inr printed ↦ other b no_quote no_backslash no_delete printed
      ]
    ]
  ]
]

pub read_back : (text rest : List ℕ) → read_string between (json_bytes text ++ 34 ∷ rest) ≡ Some text
unfolding read_string
read_back [] rest = refl
read_back (b ∷ text) rest = grind (arith, nat_tests, append_assoc, reads, read_back text rest)
