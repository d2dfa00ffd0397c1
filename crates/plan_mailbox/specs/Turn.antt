-- The order in which a take checks the senders (agenda).
use Rattle.std.specs.Prelude.{ℕ, ◌-◌, List, ◌++◌, map, flat_map}
use Rattle.std.specs.List.{range_with_len}

-- the senders in the order of a take: from the turn on, ascending, and then from the first to the one before the turn (agenda)
abbrev pub in_turn : ℕ → ℕ → List ℕ
in_turn senders turn = range_with_len turn (senders - turn) ++ range_with_len 0 turn

-- the messages of these senders, each with its sender: sender by sender, and for each sender the oldest first
abbrev pub line_of : {M : Type 0} → (ℕ → List M) → List ℕ → List (ℕ × M)
line_of messages senders = flat_map (λ s. map (λ m. (s, m)) (messages s)) senders
