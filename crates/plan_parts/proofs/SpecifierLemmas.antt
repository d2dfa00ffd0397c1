-- The text of an instance has its specifiers replaced, line by line.
use Rattle.std.proofs.Common.{◌≡◌, ◌==◌, ℕ, ◌+◌, ◌-◌, zero, suc, Bool, true, false, not, cond, nat_lt, List, [], ◌∷◌, ◌++◌, length, take, drop, map, slice_range, Option, None, Some, refl, ap, sym, ◌∙◌, append_assoc, arith}
use Rattle.std.proofs.lemmas.Bool.Decides.{nat_tests}
use Rattle.std.proofs.lemmas.List.{map-id}
use Rattle.std.proofs.lemmas.List.Elements.{All-nil, All-cons, All-head, All-tail}
use Rattle.std.specs.List.{All, prefix_len}
use Rattle.plan_texts.specs.Lines.{HasNoNewline, lines, written}
use Rattle.plan_texts.proofs.LinesLemmas.{none_in_lines, written-lines}
use Rattle.plan_parts.specs.Merging.{ends_line}
use Rattle.plan_parts.specs.NameParts.{parts_of, type_start}
use Rattle.plan_parts.specs.Specifiers.{expanded, expanded_by, has_byte, last_part, replaced, slashed, specifier, text_for}
use Rattle.plan_parts.proofs.LinesLemmas.{lines_of_written, with_newline_is}

-- a text with the specifiers of a name with a prefix and an instance replaced
abbrev pub filled : List ℕ → List ℕ → List ℕ → List ℕ → List ℕ
filled name prefix instance text = replaced (λ letter. text_for (specifier name prefix instance letter) letter) false text

pub expanded_instance :
    (name prefix instance back text : List ℕ) → Some (prefix, instance, back) ≡ parts_of name → (length instance == 0) ≡ false →
    filled name prefix instance text ≡ expanded_by name (parts_of name) text
expanded_instance name prefix instance back text is some =
    ap (λ b. cond b text (filled name prefix instance text)) (sym some) ∙ ap (λ parts. expanded_by name parts text) is

-- ---- texts without newlines

none_head : (b : ℕ) (more : List ℕ) → HasNoNewline (b ∷ more) → (b == 10) ≡ false
none_head b more none = grind (arith, nat_tests)

none_tail : (b : ℕ) (more : List ℕ) → HasNoNewline (b ∷ more) → HasNoNewline more
none_tail b more none = grind (arith, nat_tests)

none_cons : (b : ℕ) (more : List ℕ) → (b == 10) ≡ false → HasNoNewline more → HasNoNewline (b ∷ more)
none_cons b more here there = rw here there

none_append : (xs ys : List ℕ) → HasNoNewline xs → HasNoNewline ys → HasNoNewline (xs ++ ys)
none_append [] ys first second = second
none_append (b ∷ more) ys first second =
    none_cons b (more ++ ys) (none_head b more first) (none_append more ys (none_tail b more first) second)

none_take : (k : ℕ) (text : List ℕ) → HasNoNewline text → HasNoNewline (take k text)
none_take zero text none = refl
none_take (suc k) [] none = refl
none_take (suc k) (b ∷ more) none = none_cons b (take k more) (none_head b more none) (none_take k more (none_tail b more none))

none_drop : (k : ℕ) (text : List ℕ) → HasNoNewline text → HasNoNewline (drop k text)
none_drop zero text none = none
none_drop (suc k) [] none = refl
none_drop (suc k) (b ∷ more) none = none_drop k more (none_tail b more none)

none_slash : (b : ℕ) (c : Bool) → (b == 10) ≡ false → (cond c 47 b == 10) ≡ false
none_slash b true none = refl
none_slash b false none = none

none_slashed : (text : List ℕ) → HasNoNewline text → HasNoNewline (slashed text)
none_slashed [] none = refl
none_slashed (b ∷ more) none =
    none_cons (cond (b == 45) 47 b) (slashed more) (none_slash b (b == 45) (none_head b more none))
    (none_slashed more (none_tail b more none))

-- ---- what stands for a letter

choice :
    (c : Bool) (text : List ℕ) (rest : Option (List ℕ)) (letter : ℕ) → HasNoNewline text → HasNoNewline (text_for rest letter) →
    HasNoNewline (text_for (cond c (Some text) rest) letter)
choice true text rest letter first later = first
choice false text rest letter first later = later

-- what stands for a letter has no newline, except for a newline itself
none_for :
    (name prefix instance : List ℕ) (letter : ℕ) → HasNoNewline name → HasNoNewline prefix → HasNoNewline instance →
    (letter == 10) ≡ false → HasNoNewline (text_for (specifier name prefix instance letter) letter)
none_for name prefix instance letter whole front middle other =
    let last : HasNoNewline (last_part prefix) = none_drop _ prefix front in
    choice (letter == 105) instance _ letter middle
    (choice (letter == 73) (slashed instance) _ letter (none_slashed instance middle)
    (choice (letter == 110) name _ letter whole
    (choice (letter == 78) (take (type_start name) name) _ letter (none_take (type_start name) name whole)
    (choice (letter == 112) prefix _ letter front
    (choice (letter == 80) (slashed prefix) _ letter (none_slashed prefix front)
    (choice (letter == 106) (last_part prefix) _ letter last
    (choice (letter == 74) (slashed (last_part prefix)) _ letter (none_slashed (last_part prefix) last)
    (choice (letter == 37) (37 ∷ []) None letter refl
    (none_cons 37 (letter ∷ []) refl (none_cons letter [] other refl))))))))))

-- ---- line by line

-- `put` breaks no line: a `%` before a newline stays, and nothing else gives a newline
abbrev KeepsLines : (ℕ → List ℕ) → Type 0
KeepsLines put = (put 10 ≡ 37 ∷ 10 ∷ []) × ((b : ℕ) → (b == 10) ≡ false → HasNoNewline (put b))

none_replaced :
    (put : ℕ → List ℕ) → KeepsLines put → (marked : Bool) (line : List ℕ) → HasNoNewline line → HasNoNewline (replaced put marked line)
none_replaced put keeps false [] none = refl
none_replaced put keeps true [] none = refl
none_replaced put keeps true (b ∷ more) none =
    none_append (put b) (replaced put false more) (keeps.1 b (none_head b more none))
    (none_replaced put keeps false more (none_tail b more none))
none_replaced put keeps false (b ∷ more) none =
    elim (b == 37) as (λ c. HasNoNewline (cond c (replaced put true more) (b ∷ replaced put false more))) [
      | true ↦ none_replaced put keeps true more (none_tail b more none)
      | false ↦ none_cons b (replaced put false more) (none_head b more none) (none_replaced put keeps false more (none_tail b more none))
    ]

-- a line with its newline, and what follows
replaced_line :
    (put : ℕ → List ℕ) → KeepsLines put → (marked : Bool) (line rest : List ℕ) → HasNoNewline line →
    replaced put marked (line ++ 10 ∷ rest) ≡ replaced put marked line ++ 10 ∷ replaced put false rest
replaced_line put keeps false [] rest none = refl
replaced_line put keeps true [] rest none = ap (λ t. t ++ replaced put false rest) keeps.0
replaced_line put keeps true (b ∷ more) rest none =
    ap (λ t. put b ++ t) (replaced_line put keeps false more rest (none_tail b more none))
    ∙ sym (append_assoc (put b) (replaced put false more) (10 ∷ replaced put false rest))
replaced_line put keeps false (b ∷ more) rest none =
    elim (b == 37) as (λ c. cond c (replaced put true (more ++ 10 ∷ rest)) (b ∷ replaced put false (more ++ 10 ∷ rest))
    ≡ cond c (replaced put true more) (b ∷ replaced put false more) ++ 10 ∷ replaced put false rest) [
      | true ↦ replaced_line put keeps true more rest (none_tail b more none)
      | false ↦ ap (λ t. b ∷ t) (replaced_line put keeps false more rest (none_tail b more none))
    ]

replaced_written :
    (put : ℕ → List ℕ) → KeepsLines put → (ls : List (List ℕ)) → All HasNoNewline ls →
    replaced put false (written ls) ≡ written (map (replaced put false) ls)
replaced_written put keeps [] none = refl
replaced_written put keeps (line ∷ more) none =
    replaced_line put keeps false line (written more) (All-head HasNoNewline line more none)
    ∙ ap (λ t. replaced put false line ++ 10 ∷ t) (replaced_written put keeps more (All-tail HasNoNewline line more none))

all_replaced :
    (put : ℕ → List ℕ) → KeepsLines put → (ls : List (List ℕ)) → All HasNoNewline ls → All HasNoNewline (map (replaced put false) ls)
all_replaced put keeps [] none = All-nil HasNoNewline
all_replaced put keeps (line ∷ more) none =
    All-cons HasNoNewline (replaced put false line) (map (replaced put false) more)
    (none_replaced put keeps false line (All-head HasNoNewline line more none))
    (all_replaced put keeps more (All-tail HasNoNewline line more none))

replaced_lines :
    (put : ℕ → List ℕ) → KeepsLines put → (text : List ℕ) → ends_line text ≡ true →
    lines (replaced put false text) ≡ map (replaced put false) (lines text)
replaced_lines put keeps text ended =
    let whole : text ≡ written (lines text) =
    sym (written-lines text ∙ with_newline_is text ∙ ap (λ e. cond e text (text ++ 10 ∷ [])) ended) in
    ap (λ t. lines (replaced put false t)) whole
    ∙ ap lines (replaced_written put keeps (lines text) (none_in_lines text))
    ∙ lines_of_written (map (replaced put false) (lines text)) (all_replaced put keeps (lines text) (none_in_lines text))

instance_lines :
    (name prefix instance text : List ℕ) (c : Bool) → HasNoNewline name → HasNoNewline prefix → HasNoNewline instance →
    ends_line text ≡ true →
    lines (cond c text (filled name prefix instance text)) ≡ map (λ line. cond c line (filled name prefix instance line)) (lines text)
instance_lines name prefix instance text true whole front middle ended = sym (map-id (lines text))
instance_lines name prefix instance text false whole front middle ended =
    replaced_lines (λ letter. text_for (specifier name prefix instance letter) letter)
    (refl, λ letter other. none_for name prefix instance letter whole front middle other) text ended

parts_lines :
    (name text prefix instance back : List ℕ) (c : Bool) → HasNoNewline name → HasNoNewline prefix → HasNoNewline instance →
    ends_line text ≡ true →
    lines (expanded_by name (cond c (Some (prefix, instance, back)) None) text)
    ≡ map (λ line. expanded_by name (cond c (Some (prefix, instance, back)) None) line) (lines text)
parts_lines name text prefix instance back true whole front middle ended =
    instance_lines name prefix instance text (length instance == 0) whole front middle ended
parts_lines name text prefix instance back false whole front middle ended = sym (map-id (lines text))

lines_by :
    (name text : List ℕ) (c : Bool) → has_byte 10 name ≡ c → ends_line text ≡ true →
    lines (cond c text (expanded_by name (parts_of name) text))
    ≡ map (λ line. cond c line (expanded_by name (parts_of name) line)) (lines text)
lines_by name text true is ended = sym (map-id (lines text))
lines_by name text false is ended =
    let first = prefix_len (λ b. not (b == 64)) name in
    let end = type_start name in
    parts_lines name text (take first name) (slice_range name (first + 1) end) (drop end name) (nat_lt first end) is
    (none_take first name is) (none_take (end - (first + 1)) (drop (first + 1) name) (none_drop (first + 1) name is)) ended

-- the lines are those of the text, each with its specifiers replaced
pub expanded_lines : (name text : List ℕ) → ends_line text ≡ true → lines (expanded name text) ≡ map (expanded name) (lines text)
expanded_lines name text ended = lines_by name text (has_byte 10 name) refl ended

-- ---- a text without `%`

unmarked_replaced : (put : ℕ → List ℕ) (text : List ℕ) → has_byte 37 text ≡ false → replaced put false text ≡ text
unmarked_replaced put [] none = refl
unmarked_replaced put (b ∷ more) none =
    let here : (b == 37) ≡ false = grind (arith, nat_tests) in
    let there : has_byte 37 more ≡ false = grind (arith, nat_tests) in
    rw here (ap (λ t. b ∷ t) (unmarked_replaced put more there))

unmarked_by :
    (name text : List ℕ) (parts : Option (List ℕ × List ℕ × List ℕ)) → has_byte 37 text ≡ false → expanded_by name parts text ≡ text
unmarked_by name text None none = refl
unmarked_by name text (Some parts) none =
    elim (length parts.1 == 0) as (λ c. cond c text (filled name parts.0 parts.1 text) ≡ text) [
      | true ↦ refl
      | false ↦ unmarked_replaced (λ letter. text_for (specifier name parts.0 parts.1 letter) letter) text none
    ]

-- a text without `%` stays
pub expanded_unmarked : (name text : List ℕ) → has_byte 37 text ≡ false → expanded name text ≡ text
expanded_unmarked name text none =
    elim (has_byte 10 name) as (λ c. cond c text (expanded_by name (parts_of name) text) ≡ text)
    [ true ↦ refl | false ↦ unmarked_by name text (parts_of name) none ]
