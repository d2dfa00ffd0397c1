-- The lanes of a mailbox, one for each sender (agenda).
use Rattle.std.specs.Prelude.{ℕ, List, [], map, slice_index_or}

-- the messages that wait in the lane of sender s; none if there is no such sender
abbrev pub waiting_in : {M L : Type 0} → (L → List M) → List L → ℕ → List M
waiting_in waiting lanes s = slice_index_or (map waiting lanes) s []
