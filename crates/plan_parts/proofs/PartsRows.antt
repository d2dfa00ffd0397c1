-- Worked rows of merging, of origins and of specifiers, as theorems about the definitions.
use Rattle.std.proofs.Common.{◌≡◌, List, ℕ, [], ◌∷◌, codes, refl}
use Rattle.plan_texts.specs.Lines.{lines}
use Rattle.plan_parts.specs.Merging.{merged}
use Rattle.plan_parts.specs.Origin.{origin_of}
use Rattle.plan_parts.specs.Specifiers.{expanded}

-- ---- merging

-- a timer and a drop-in; the last line of the timer gets a newline
abbrev timer : List (List ℕ)
timer = codes "[Timer]\nOnCalendar=daily" ∷ codes "[Timer]\nOnCalendar=weekly\n" ∷ []

timer_merged : merged timer ≡ codes "[Timer]\nOnCalendar=daily\n\n[Unit]\n[Timer]\nOnCalendar=weekly\n"
timer_merged = refl

-- ---- origins

last_of_first : origin_of timer 2 ≡ record { part = 0; line = 2 }
unfolding lines
last_of_first = refl

-- the empty line and the line `[Unit]` come from the whole drop-in
added_lines : (origin_of timer 3 ∷ origin_of timer 4 ∷ []) ≡ (record { part = 1; line = 0 } ∷ record { part = 1; line = 0 } ∷ [])
unfolding lines
added_lines = refl

last_of_drop_in : origin_of timer 6 ≡ record { part = 1; line = 2 }
unfolding lines
last_of_drop_in = refl

-- ---- specifiers (systemd.unit(5))

abbrev instance : List ℕ
instance = codes "a-b@i-k.timer"

of_instance : expanded instance (codes "%i %I") ≡ codes "i-k i/k"
of_instance = refl

of_name : expanded instance (codes "%n %N") ≡ codes "a-b@i-k.timer a-b@i-k"
of_name = refl

of_prefix : expanded instance (codes "%p %P") ≡ codes "a-b a/b"
of_prefix = refl

of_last_part : expanded instance (codes "%j %J") ≡ codes "b b"
of_last_part = refl

-- from left to right; another letter is no specifier, nor is a `%` at the end
other_marks : expanded instance (codes "%%i %x 5%") ≡ codes "%i %x 5%"
other_marks = refl

-- a timer that is no instance has no specifiers, and neither has a template
no_instance : expanded (codes "a.timer") (codes "%n") ≡ codes "%n"
no_instance = refl

template : expanded (codes "a@.timer") (codes "%n") ≡ codes "%n"
template = refl
