-- The files of a user's units, as the manager of the user reads them (systemd.unit(5), specifiers).
use Rattle.std.specs.Prelude.{ℕ, false, ◌==◌, if◌then◌else◌, List, [], ◌∷◌, Option, None, Some}
use Rattle.std.specs.Option.{option_map}
use Rattle.std.specs.Str.{byte}
use Rattle.plan_parts.specs.Specifiers.{replaced, text_for}
use Rattle.plan_texts.specs.Lines.{is_too_large}
use Rattle.plan_tree.specs.Tree.{Held}
use Rattle.plan_users.specs.declared.managers.Manager.{Manager}

-- the path of a home directory on the machine
abbrev pub home_path : (home : List ℕ) → List ℕ
home_path home = byte "/" ∷ home

-- the text of a specifier of the user by its letter; None for another letter, and for two `%` (systemd.unit(5), specifiers)
abbrev pub user_specifier : Manager → (letter : ℕ) → Option (List ℕ)
user_specifier manager letter =
    if letter == byte "u" then Some manager.user else
    if letter == byte "U" then Some manager.number else
    if letter == byte "h" then Some (home_path manager.home) else
    None

abbrev pub user_text : Manager → (letter : ℕ) → List ℕ
user_text manager letter = text_for (user_specifier manager letter) letter

-- a text with the specifiers of the user replaced; the others stay
abbrev pub expanded_for : Manager → List ℕ → List ℕ
expanded_for manager text = replaced (user_text manager) false text

-- a file as it is read; one that is too large to be a text is read as it is (agenda)
abbrev pub as_read : Manager → List ℕ → List ℕ
as_read manager bytes = if is_too_large bytes then bytes else expanded_for manager bytes

-- what a tree holds for the manager of a user
abbrev pub held_for : Manager → Held → Held
held_for manager held = record {
  node = held.node;
  names = held.names;
  status = held.status;
  bytes = λ path. option_map (as_read manager) (held.bytes path);
}
