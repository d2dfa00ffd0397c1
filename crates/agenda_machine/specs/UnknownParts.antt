-- Something of a machine that may start jobs at times that its files don't tell (agenda).
use Rattle.std.specs.Prelude.{ℕ, List}
use Rattle.agenda_machine.specs.declared.unknown.Name.{Name}

-- its path as it is printed, and the names that it has
pub record UnknownParts : Type 0 where
  pub path : List ℕ
  pub names : List Name
