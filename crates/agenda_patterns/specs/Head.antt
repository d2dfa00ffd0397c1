-- What the head of a pattern, the bytes before its first `*`, says about a name.
use Rattle.std.specs.Prelude.{◌≡◌, ℕ, ◌<◌, ◌≤◌, true, false, List, length}
use Rattle.agenda_patterns.specs.declared.pattern.Head.{Head}
use Rattle.agenda_patterns.specs.declared.pattern.Head.TheVariants.{Fits, Differs, Star}
use Rattle.agenda_patterns.specs.Pattern.{any_suffix, fits}

-- the rest of a pattern, after a `*`, and the rest of a name decide: whether the name fits, and also whether some end of it does
pub record GoesOn (pattern name rest end : List ℕ) : Type 0 where
  pub shorter : length rest < length pattern
  pub within : length end ≤ length name
  pub whole : fits pattern name ≡ any_suffix (fits rest) end
  pub some_end : any_suffix (fits pattern) name ≡ any_suffix (fits rest) end

-- what a head says about a name is true
abbrev pub Says : (pattern name : List ℕ) → Head → Type 0
Says pattern name Fits = fits pattern name ≡ true
Says pattern name Differs = fits pattern name ≡ false
Says pattern name (Star rest end) = GoesOn pattern name rest.now end.now
