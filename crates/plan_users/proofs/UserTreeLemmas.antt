-- The first bytes of a file as the manager of a user reads it, by the first bytes of the file.
use Rattle.std.proofs.Common.{◌≡◌, ℕ, ◌+◌, ◌<◌, ◌≤◌, Bool, true, false, cond, List, length, take, nat_lt, Option, None, Some, refl, sym, ap, ◌∙◌, arith, length-take, length-take-le, take_all, take-take}
use Rattle.std.proofs.lemmas.Bool.{ltb-false, ltb-true, lt-ltb}
use Rattle.std.specs.Option.{option_map}
use Rattle.plan_texts.specs.Limits.{most_bytes}
use Rattle.plan_users.specs.declared.managers.Manager.{Manager}
use Rattle.plan_users.specs.UserTree.{as_read, expanded_for}

read_by : (manager : Manager) (most enough : ℕ) (bytes : List ℕ) (large : Bool) → nat_lt most_bytes (length bytes) ≡ large →
    most ≤ enough → most_bytes < enough → take most (as_read manager (take enough bytes)) ≡ take most (as_read manager bytes)
read_by manager most enough bytes true large more long =
    let len = length-take enough bytes in
    let here : nat_lt most_bytes (length (take enough bytes)) ≡ true = lt-ltb most_bytes _ (omega (arith, len, ltb-true most_bytes (length bytes) large)) in
    ap (λ is. take most (cond is (take enough bytes) (expanded_for manager (take enough bytes)))) here
    ∙ take-take most enough bytes more
    ∙ ap (λ is. take most (cond is bytes (expanded_for manager bytes))) (sym large)
read_by manager most enough bytes false large more long =
    ap (λ read. take most (as_read manager read)) (take_all enough bytes (omega (arith, ltb-false most_bytes (length bytes) large)))

-- enough bytes of a file decide its first bytes as they are read
pub read_enough : (manager : Manager) (most enough : ℕ) (bytes : List ℕ) → most ≤ enough → most_bytes < enough →
    take most (as_read manager (take enough bytes)) ≡ take most (as_read manager bytes)
read_enough manager most enough bytes more long = read_by manager most enough bytes (nat_lt most_bytes (length bytes)) refl more long

pub file_enough : (manager : Manager) (most enough : ℕ) (front : List ℕ) (file : Option (List ℕ)) → most ≤ enough → most_bytes < enough →
    Some front ≡ option_map (take enough) file →
    Some (take most (as_read manager front)) ≡ option_map (take most) (option_map (as_read manager) file)
file_enough manager most enough front (Some bytes) more long is =
    ap (option_map (λ read. take most (as_read manager read))) is ∙ ap Some (read_enough manager most enough bytes more long)
file_enough manager most enough front None more long is = absurd (cc is)
