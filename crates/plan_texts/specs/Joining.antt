-- The state while lines are merged: the whole lines so far, and the one that the next line continues.
use Rattle.std.specs.Prelude.{ℕ, if◌then◌else◌, List, ◌++◌, map, Option, Some, None, string_bytes}
use Rattle.plan_texts.specs.declared.whole_lines.WholeLine.{WholeLine}
use Rattle.plan_texts.specs.declared.whole_lines.Joiner.{Joiner}
use Rattle.plan_texts.specs.WholeLines.{line_text, is_comment, in_front, with_line, whole_text}

-- the line that is still to be continued, merged with the whole lines that follow
abbrev pub resumed : Option WholeLine → List (ℕ × List ℕ) → List (ℕ × List ℕ)
resumed None rest = rest
resumed (Some line) rest = in_front line.number (string_bytes line.text) rest

-- the whole lines so far, followed by these
abbrev pub whole_with : Joiner → List (ℕ × List ℕ) → List (ℕ × List ℕ)
whole_with joiner rest = map whole_text joiner.whole.items ++ resumed joiner.open rest

-- a line of the file, not yet stripped, and the whole lines that follow it; comments are skipped
abbrev pub with_raw_line : ℕ → List ℕ → List (ℕ × List ℕ) → List (ℕ × List ℕ)
with_raw_line number line rest =
    if is_comment (line_text line) then rest else with_line (number, line_text line) rest
