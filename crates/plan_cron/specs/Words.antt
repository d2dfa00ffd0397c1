-- The words of a line, and what follows them (crontab(5)).
use Rattle.std.specs.Prelude.{ℕ, zero, suc, ◌-◌, List, []}
use Rattle.std.specs.Option.{option_map_or}
use Rattle.plan_texts.specs.Lines.{cut_word}

-- the first word of a text
abbrev pub first_word : List ℕ → List ℕ
first_word text = option_map_or (λ cut. cut.0) (cut_word text) []

-- what follows the first word of a text
abbrev pub after_word : List ℕ → List ℕ
after_word text = option_map_or (λ cut. cut.1) (cut_word text) []

-- what follows the first words of a text, of which there is this number
abbrev pub after_words : ℕ → List ℕ → List ℕ
after_words zero text = text
after_words (suc count) text = after_word (after_words count text)

-- the word at a place of a text, from 1; at place 0 it is the first word too
abbrev pub word_at : List ℕ → ℕ → List ℕ
word_at text place = first_word (after_words (place - 1) text)
