-- The entries of an agenda are in the order of their times: they ascend.
use Rattle.std.proofs.Common.{ℕ, List, [], ◌∷◌, refl, arith}
use Rattle.std.specs.Prelude.{nat_le}
use Rattle.std.specs.List.{list_all}
use Rattle.std.proofs.lemmas.Bool.{and_from}
use Rattle.std.proofs.lemmas.Bool.Decides.{nat_tests}
use Rattle.plan_collect.specs.Span.{Bounds}
use Rattle.plan_collect.specs.Windows.{Timing, agenda_of_windows}
use Rattle.plan_collect.proofs.AgendaOrder.{Ascends-agenda}
use Rattle.plan_collect.proofs.StartsLemmas.{Ascends, NoneBefore}
use Rattle.agenda_cover.specs.Cover.{AreFrom, AreInOrder}

from_second : (entry : ℕ × ℕ) (later : List (ℕ × ℕ)) → NoneBefore entry later → AreFrom entry.0 later
from_second entry [] none = refl
from_second entry (other ∷ later) none =
    and_from (nat_le entry.0 other.0) (list_all (λ one. nat_le entry.0 one.0) later) (let h = none.0 in grind (arith, nat_tests))
    (from_second entry later none.1)

in_order : (entries : List (ℕ × ℕ)) → Ascends entries → AreInOrder entries
in_order [] up = tt
in_order (entry ∷ later) up = (from_second entry later up.0, in_order later up.1)

-- the entries of an agenda are in order
pub agenda-in_order : (timings : List Timing) (span : Bounds) → AreInOrder (agenda_of_windows timings span)
agenda-in_order timings span = in_order _ (Ascends-agenda timings span)
