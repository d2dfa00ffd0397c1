-- Which words are no user, where a line of the system's crontab has one (crontab(5), the note on the system crontab).
use Rattle.std.specs.Prelude.{ℕ, Bool, ◌||◌, ◌==◌, List}
use Rattle.std.specs.Char.{is_ascii_digit}
use Rattle.std.specs.List.{list_any}
use Rattle.std.specs.Str.{byte}
use Rattle.plan_texts.specs.Text.{begins_with}

-- a user has no `/`, and doesn't begin with `-` or a digit, so such a word begins a command whose user was forgotten (agenda)
abbrev pub is_no_user : List ℕ → Bool
is_no_user user = list_any (λ b. b == byte "/") user || begins_with (λ b. (b == byte "-") || is_ascii_digit b) user
