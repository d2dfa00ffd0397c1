-- Pieces of a rule's starts.
use Rattle.std.specs.Prelude.{◌≡◌, ℕ, ◌+◌, ◌-◌, ◌<◌, ◌≤◌, nat_le, if◌then◌else◌, List, length, slice_index, refl}
use Rattle.std.specs.Coded.{Coded, code_by, coded×, coded_ℕ}
use Rattle.plan_match.specs.declared.rule.Rule.{Rule}
use Rattle.plan_match.specs.contracts.rule.Rule.{the_row as rule_row}
use Rattle.plan_next.specs.Starts.{starts}

-- what contracts see of a piece: a rule and a part of time; the starts follow from them
pub record Part : Type 0 where
  pub rule : Rule
  pub since : ℕ
  pub upto : ℕ

-- a part is encoded as the triple of its fields
abbrev pub part_code : Coded Part
part_code =
    code_by (Rule × (ℕ × ℕ)) (coded× rule_row.coded (coded× coded_ℕ coded_ℕ)) (λ p. (p.rule, (p.since, p.upto)))
    (λ t. record { rule = t.0; since = t.1.0; upto = t.1.1 }) (λ _. refl)

-- the end of a piece: the end of the part if that has at most `most` starts, else just after the first `most` of them (agenda)
abbrev pub piece_end : Rule → (since upto most : ℕ) → ℕ
piece_end rule since upto most =
    let all = starts rule since upto in
    if nat_le (length all) most then upto else slice_index all (most - 1) + 1

-- the piece of a rule that begins at `since`
abbrev pub piece_of : Rule → (since upto most : ℕ) → Part
piece_of rule since upto most = record { rule = rule; since = since; upto = piece_end rule since upto most }

-- all starts of a part before the second `reached` were found, at most `most` of them; the last is just before that second
pub record AreFound (rule : Rule) (since upto most : ℕ) (found : List ℕ) (reached : ℕ) : Type 0 where
  pub from : since ≤ reached
  pub to : reached ≤ upto
  pub few : length found ≤ most
  pub all : found ≡ starts rule since reached
  pub last : 0 < length found → (since < reached) × (slice_index found (length found - 1) + 1 ≡ reached)
