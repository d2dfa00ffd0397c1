-- The words of a sentence, and the notes in brackets after them, cut out of its bytes.
use Rattle.std.specs.Prelude.{ℕ, ◌+◌, ◌-◌, ◌*◌, Bool, true, false, ◌&&◌, ◌||◌, ◌==◌, nat_lt, nat_le, List, [], ◌∷◌, ◌++◌, map, codes, Option, Some, None}
use Rattle.std.specs.Str.{byte, bytes_eq}
use Rattle.plan_words.specs.declared.names.TimeUnit.TheVariants.{Second, Minute, Hour}
use Rattle.plan_words.specs.declared.names.Weekday.TheVariants as day
use Rattle.plan_words.specs.declared.names.Month.TheVariants as month
use Rattle.plan_words.specs.Words.{At, Every, From, To, Of, And, Comma, On, The, Last, ADay, Days, Odd, Even, Each, AMonth, Year, In, But, Only, Also, Where, It, They, Exists, Exist, Word, Key, Number, Ordinal, Clock, ClockSeconds, ADayOfWeek, DaysOfWeek, NameOfMonth, OneUnit, ManyUnits, word_text}

-- ---- from bytes to words

-- where a piece begins: at a blank, which is not part of it, and at a comma, which is
pub data Mark : Type 0 where
  ABlank AComma NoMark : Mark

-- what a byte marks
abbrev pub mark : ℕ → Mark
mark b = elim (b == 32) [ true ↦ ABlank | false ↦ elim (b == 44) [ true ↦ AComma | false ↦ NoMark ] ]

-- one byte before a text: what comes before the first mark, and the pieces from there on
abbrev pub with_byte : ℕ → Mark → List ℕ × List (List ℕ) → List ℕ × List (List ℕ)
with_byte b ABlank cut = ([], cut.0 ∷ cut.1)
with_byte b AComma cut = ([], (b ∷ cut.0) ∷ cut.1)
with_byte b NoMark cut = (b ∷ cut.0, cut.1)

-- what comes before the first mark of a text, and the pieces from there on
abbrev pub pieces : List ℕ → List ℕ × List (List ℕ)
pieces [] = ([], [])
pieces (b ∷ bs) = with_byte b (mark b) (pieces bs)

-- a decimal digit
abbrev pub is_digit : ℕ → Bool
is_digit b = nat_le 48 b && nat_lt b 58

-- the number that the digits at the start write after those of another, and what follows them
abbrev pub number_from : ℕ → List ℕ → ℕ × List ℕ
number_from n [] = (n, [])
number_from n (b ∷ bs) = elim (is_digit b) [ true ↦ number_from (n * 10 + (b - 48)) bs | false ↦ (n, b ∷ bs) ]

-- the words that are no numbers
abbrev pub names : List Word
names =
    map Key (At ∷ Every ∷ From ∷ To ∷ Of ∷ And ∷ Comma ∷ On ∷ The ∷ Last ∷ ADay ∷ Days ∷ Odd ∷ Even ∷ Each ∷ AMonth ∷ Year ∷ In ∷ But
    ∷ Only ∷ Also ∷ Where ∷ It ∷ They ∷ Exists ∷ Exist ∷ [])
    ++ map ADayOfWeek (day.Monday ∷ day.Tuesday ∷ day.Wednesday ∷ day.Thursday ∷ day.Friday ∷ day.Saturday ∷ day.Sunday ∷ [])
    ++ map DaysOfWeek (day.Monday ∷ day.Tuesday ∷ day.Wednesday ∷ day.Thursday ∷ day.Friday ∷ day.Saturday ∷ day.Sunday ∷ [])
    ++ map NameOfMonth (month.January ∷ month.February ∷ month.March ∷ month.April ∷ month.May ∷ month.June ∷ month.July ∷ month.August
    ∷ month.September ∷ month.October ∷ month.November ∷ month.December ∷ [])
    ++ map OneUnit (Second ∷ Minute ∷ Hour ∷ []) ++ map ManyUnits (Second ∷ Minute ∷ Hour ∷ [])

-- the word of a list that is spelled so; any other text counts as the last keyword
abbrev pub named : List Word → List ℕ → Word
named [] text = Key Exist
named (w ∷ ws) text = elim (bytes_eq (word_text w) text) [ true ↦ w | false ↦ named ws text ]

-- a clock, after the hour and a colon
abbrev pub clock_after : ℕ → ℕ × List ℕ → Word
clock_after hour (minute, []) = Clock hour minute
clock_after hour (minute, (b ∷ bs)) = ClockSeconds hour minute (number_from 0 bs).0

-- the ending of an ordinal number
abbrev pub is_ending : List ℕ → Bool
is_ending text =
    bytes_eq text (codes "st") || (bytes_eq text (codes "nd") || (bytes_eq text (codes "rd") || bytes_eq text (codes "th")))

-- a word, after the digits at its start
abbrev pub word_after : ℕ → List ℕ → (whole : List ℕ) → Word
word_after n [] whole = Number n
word_after n (b ∷ rest) whole =
    elim (b == 58) [
      | true ↦ clock_after n (number_from 0 rest)
      | false ↦
          elim (is_ending (b ∷ rest)) [
            | true ↦ Ordinal n
            | false ↦ named names whole
          ]
    ]

-- the word that a piece is
abbrev pub word_of : List ℕ → Word
word_of text = let cut = number_from 0 text in word_after cut.0 cut.1 text

-- the words of a sentence
abbrev pub words_in : List ℕ → List Word
words_in sentence = map word_of (pieces (32 ∷ sentence)).1

-- ---- notes

-- where the notes begin: at the first bracket. What comes before it, and the notes
abbrev pub notes_cut : List ℕ → List ℕ × List ℕ
notes_cut [] = ([], [])
notes_cut (b ∷ bs) = elim (b == byte "(") [ true ↦ ([], b ∷ bs) | false ↦ (b ∷ (notes_cut bs).0, (notes_cut bs).1) ]

-- a text without its last byte
abbrev pub without_last : List ℕ → List ℕ
without_last [] = []
without_last (b ∷ []) = []
without_last (b ∷ c ∷ more) = b ∷ without_last (c ∷ more)

-- the text of the words; there is a blank between them and the notes
abbrev pub words_text : List ℕ × List ℕ → List ℕ
words_text (text, []) = text
words_text (text, (b ∷ bs)) = without_last text

-- what comes before the first blank
abbrev pub before_blank : List ℕ → List ℕ
before_blank [] = []
before_blank (b ∷ bs) = elim (b == byte " ") [ true ↦ [] | false ↦ b ∷ before_blank bs ]

-- the text between the first byte and the last
abbrev pub inside : List ℕ → List ℕ
inside [] = []
inside (b ∷ bs) = without_last bs

-- the zone of a note, which is up to the first blank; `(no` begins another note
abbrev pub zone_of_note : List ℕ → Option (List ℕ)
zone_of_note [] = None
zone_of_note (b ∷ bs) = elim (bytes_eq (b ∷ bs) (codes "(no")) [ true ↦ None | false ↦ Some (inside (b ∷ bs)) ]
