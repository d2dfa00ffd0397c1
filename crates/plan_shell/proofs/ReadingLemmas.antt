-- What is read is in the grammar.
use Rattle.std.proofs.Common.{◌≡◌, ℕ, ◌+◌, Bool, true, false, not, ◌&&◌, ◌||◌, nat_lt, if◌then◌else◌, ◌∙◌, ap, sym, subst, refl, List, [], ◌∷◌, ◌++◌, length, codes, Option, Some, None, append_assoc, append-nil, add-one, ◌⊎◌, inl, inr, ⊎_elim}
use Rattle.std.proofs.lemmas.Option.{none-some, option_and_then_some, same_Some}
use Rattle.plan_shell.specs.declared.step.Step.{Step}
use Rattle.plan_shell.specs.declared.step.Step.TheVariants as step
use Rattle.plan_shell.specs.declared.tokens.Token.{Token}
use Rattle.plan_shell.specs.declared.tokens.Token.TheVariants as token
use Rattle.plan_shell.specs.declared.level.Join.{Join}
use Rattle.plan_shell.specs.declared.level.Join.TheVariants as join
use Rattle.plan_shell.specs.declared.level.Inside.{Inside}
use Rattle.plan_shell.specs.declared.level.Inside.TheVariants as inside
use Rattle.plan_shell.specs.declared.level.Level.{Level}
use Rattle.plan_shell.specs.declared.reader.Place.{Place}
use Rattle.plan_shell.specs.declared.reader.Place.TheVariants.{Command, CommandOrEnd, Words, Operator}
use Rattle.plan_shell.specs.Commands.{steps_of}
use Rattle.plan_shell.specs.Grammar.{AreAndOrs, AreCommands, AreWords, IsAndOr, IsCommand, IsList, IsRest, at_else, ended as list_ended, in_braces, in_parentheses, no_else, simple, unended, first_word, next_word}
use Rattle.plan_shell.specs.Pieces.{pieces_of}
use Rattle.plan_shell.specs.Reading.{State, after_token, at_close, at_elif, at_fi, at_join, at_not, at_open, at_part, at_pipe, at_semicolon, at_token, at_word, end_steps, ended, ends_in, if_steps, is_in, left, may_begin, may_end, most_nested, new_level, operator, start, steps_from, steps_in, token_at, whole, with_command, with_end, with_steps as state_with, words_after}
use Rattle.plan_shell.specs.Tree.{Shell, Known, top, tree_of}
use Rattle.plan_shell.proofs.GrammarLemmas.{Begun, Ends, JoinBegun, Makes, NotBegun, Opened, PipeBegun, Pieces, Span, after_and, after_brace, after_elif, after_else, after_if, after_not, after_or, after_parenthesis, after_pipe, after_semicolon, after_then, and_or_ends, and_ors_end, begun, if_ends, makes_more, no_join, no_list, no_not, no_pipe, pipe_ends, span_begun, span_ended, span_same}
use Rattle.plan_shell.proofs.SimpleLemmas.{simple_tree}
use Rattle.plan_shell.proofs.TokenLemmas.{Spelled, is_closed, plain_word, spelled_at, word, semicolon, and, or, pipe, exclamation, parenthesis, closing_parenthesis, brace, closing_brace, word_if, word_then, word_elif, word_else, word_fi}

-- ---- a command, as far as it has been read

-- the lists that a list is in, which begins at `xs` with the trees `below`
pub data Nested (all : Pieces) : (outer : List Level) (kind : Inside) (elifs : ℕ) (xs : Pieces) (below : List Shell) → Type 0 where
  outermost : {elifs : ℕ} → Nested all [] inside.Whole elifs all []
  inner : {level : Level} {outer : List Level} {kind : Inside} {elifs : ℕ} {xs ys zs : Pieces} {below trees between : List Shell}
      → Nested all outer level.inside level.elifs xs below → Begun level xs ys below between → Opened kind elifs ys zs between trees
      → Nested all (level ∷ outer) kind elifs zs trees

-- the innermost list, from `xs` to `rest`, and the words of its last simple command; `closed`: a list that ends here is closed
pub data Here : (closed : Bool) → Place → Level → (xs rest : Pieces) (below trees : List Shell) (words : Pieces) → Type 0 where
  at_command : {level : Level} {xs rest : Pieces} {below trees : List Shell} → Begun level xs rest below trees
      → Here true Command level xs rest below trees []
  at_command_or_end : {before : Bool} {level : Level} {xs rest : Pieces} {below : List Shell} {a : Shell} → Begun level xs rest below (a ∷ below)
      → Span (AreAndOrs before) xs (codes ";" ∷ rest) a → Here true CommandOrEnd level xs rest below (a ∷ below) []
  at_words : {level : Level} {xs rest words : Pieces} {below trees : List Shell} → Begun level xs (words ++ rest) below trees → AreWords words
      → Here true Words level xs rest below trees words
  at_operator : {closed : Bool} {level : Level} {xs ys rest : Pieces} {below trees : List Shell} {c : Shell} → Begun level xs ys below trees
      → Span (IsCommand closed) ys rest c → Here closed Operator level xs rest below (c ∷ trees) []

abbrev Around : (all : Pieces) → State → (xs : Pieces) → (below trees : List Shell) → Type 0
Around all s xs below trees = Makes s.steps [] trees × Nested all s.outer s.level.inside s.level.elifs xs below

data Reads (all : Pieces) (closed : Bool) (s : State) (words rest : Pieces) : Type 0 where
  reads : {xs : Pieces} {below trees : List Shell} → Around all s xs below trees → Here closed s.place s.level xs rest below trees words
      → Reads all closed s words rest

-- ---- tests

chosen : {A : Type 0} (b : Bool) (x : Option A) (y : A) → (if b then x else None) ≡ Some y → (b ≡ true) × (x ≡ Some y)
chosen true x y h = (refl, h)
chosen false x y h = absurd (none-some y h)

both_true : (x y : Bool) → (x && y) ≡ true → (x ≡ true) × (y ≡ true)
both_true true y h = (refl, h)
both_true false y h = cc

same_inside : (kind other : Inside) → is_in kind other ≡ true → other ≡ kind
same_inside inside.Whole inside.Whole h = refl
same_inside inside.Parentheses inside.Parentheses h = refl
same_inside inside.Braces inside.Braces h = refl
same_inside inside.Condition inside.Condition h = refl
same_inside inside.Then inside.Then h = refl
same_inside inside.Else inside.Else h = refl
same_inside _ _ h = cc

-- ---- each token

becomes : {closed : Bool} {all words rest : Pieces} {s next : State} → Some s ≡ Some next → Reads all closed s words rest
    → Reads all closed next words rest
becomes {closed} {all} {words} {rest} {s} {next} h = subst (λ n. Reads all closed n words rest) (same_Some s next h)

word_reads : {all xs zs words : Pieces} {below trees : List Shell} (s next : State) (piece : List ℕ) (place : Place) → Around all s xs below trees
    → Here true place s.level xs (piece ∷ zs) below trees words → token_at place piece ≡ token.Word → at_word place s ≡ Some next
    → Reads all true next (words ++ piece ∷ []) zs
word_reads {all} {zs = zs} s next piece Command around (at_command before) is_word h =
    let plain = plain_word (operator piece) piece is_word in
    becomes h (reads around (at_words {words = piece ∷ []} before (first_word piece plain.0 plain.1)))
word_reads {all} {zs = zs} s next piece CommandOrEnd around (at_command_or_end before list) is_word h =
    let plain = plain_word (operator piece) piece is_word in
    becomes h (reads around (at_words {words = piece ∷ []} before (first_word piece plain.0 plain.1)))
word_reads {all} {xs = xs} {zs = zs} {words = words} {below = below} {trees = trees} s next piece Words around (at_words before are) is_word h =
    let longer : Begun s.level xs ((words ++ piece ∷ []) ++ zs) below trees =
    subst (λ ys. Begun s.level xs ys below trees) (sym (append_assoc words (piece ∷ []) zs)) before in
    becomes h (reads around (at_words longer (next_word piece are is_word)))
word_reads s next piece Operator around here is_word h = absurd (none-some next h)

semicolon_reads : {closed : Bool} {all xs zs : Pieces} {below trees : List Shell} (s next : State) (place : Place) → Around all s xs below trees
    → Here closed place s.level xs (codes ";" ∷ zs) below trees [] → at_semicolon place s ≡ Some next → Reads all true next [] zs
semicolon_reads {all} {zs = zs} s next Operator around (at_operator before command) h =
    let list = and_ors_end s.level before command in
    becomes h (reads (makes_more around.0 list.2, around.1) (at_command_or_end (begun (after_semicolon list.1) no_join no_not no_pipe) list.1))
semicolon_reads s next _ around here h = absurd (none-some next h)

join_reads : {closed : Bool} {all xs zs : Pieces} {below trees : List Shell} (s next : State) (joined : Join) (w : List ℕ) (place : Place)
    → Around all s xs below trees → Here closed place s.level xs (w ∷ zs) below trees []
    → ((ys : Pieces) (us : List Shell) (before : Bool) (a : Shell) → Span (IsAndOr before) ys (w ∷ zs) a → JoinBegun joined ys zs us (a ∷ us))
    → at_join place joined s ≡ Some next → Reads all true next [] zs
join_reads {closed} s next joined w Operator around (at_operator before command) enters h =
    let e = and_or_ends s.level before command in
    becomes h (reads (makes_more around.0 e.3.2, around.1) (at_command (begun e.2 (enters e.0 e.1 closed e.3.0 e.3.1) no_not no_pipe)))
join_reads s next joined w _ around here enters h = absurd (none-some next h)

pipe_reads : {closed : Bool} {all xs zs : Pieces} {below trees : List Shell} (s next : State) (place : Place) → Around all s xs below trees
    → Here closed place s.level xs (codes "|" ∷ zs) below trees [] → at_pipe place s ≡ Some next → Reads all true next [] zs
pipe_reads s next Operator around (at_operator (begun list joined negation piped) command) h =
    let e = pipe_ends s.level.is_piped piped command in
    becomes h (reads (makes_more around.0 e.2, around.1) (at_command (begun list joined negation (after_pipe e.1))))
pipe_reads s next _ around here h = absurd (none-some next h)

-- where a command may begin
begins : {closed : Bool} {level : Level} {xs rest words : Pieces} {below trees : List Shell} (place : Place) → may_begin place ≡ true
    → Here closed place level xs rest below trees words → Begun level xs rest below trees
begins Command h (at_command before) = before
begins CommandOrEnd h (at_command_or_end before list) = before
begins _ h here = cc

not_begun : {xs ys zs : Pieces} {below trees : List Shell} (is_negated is_piped : Bool) → not (is_negated || is_piped) ≡ true → NotBegun is_negated xs ys
    → PipeBegun is_piped ys (codes "!" ∷ zs) below trees → NotBegun true xs zs × PipeBegun is_piped zs zs below trees
not_begun false false h no_not no_pipe = (after_not, no_pipe)
not_begun false true h negation piped = cc
not_begun true _ h negation piped = cc

negated_begun : {xs zs : Pieces} {below trees : List Shell} (level : Level) → not (level.is_negated || level.is_piped) ≡ true
    → Begun level xs (codes "!" ∷ zs) below trees → Begun (record level { is_negated = true }) xs zs below trees
negated_begun level h (begun list joined negation piped) =
    let e = not_begun level.is_negated level.is_piped h negation piped in
    begun list joined e.0 e.1

not_reads : {closed : Bool} {all xs zs : Pieces} {below trees : List Shell} (s next : State) → Around all s xs below trees
    → Here closed s.place s.level xs (codes "!" ∷ zs) below trees [] → at_not s ≡ Some next → Reads all true next [] zs
not_reads s next around here h =
    let t = chosen (may_begin s.place && not (s.level.is_negated || s.level.is_piped)) _ next h in
    let may = both_true (may_begin s.place) _ t.0 in
    becomes t.1 (reads around (at_command (negated_begun s.level may.1 (begins s.place may.0 here))))

new_begun : {kind : Inside} {elifs : ℕ} {xs : Pieces} {below : List Shell} → Begun (new_level kind elifs) xs xs below below
new_begun = begun no_list no_join no_not no_pipe

open_reads : {closed : Bool} {all xs zs : Pieces} {below trees : List Shell} (s next : State) (kind : Inside) (w : List ℕ)
    → Around all s xs below trees → Here closed s.place s.level xs (w ∷ zs) below trees [] → Opened kind 0 (w ∷ zs) zs trees trees
    → at_open kind s ≡ Some next → Reads all true next [] zs
open_reads s next kind w around here opened h =
    let t = chosen (may_begin s.place && nat_lt (length s.outer) most_nested) _ next h in
    let before = begins s.place (both_true (may_begin s.place) _ t.0).0 here in
    becomes t.1 (reads (around.0, inner around.1 before opened) (at_command new_begun))

-- where a list may end
list_done : {closed : Bool} {level : Level} {xs rest words : Pieces} {below trees : List Shell} (place : Place) → may_end place ≡ true
    → Here closed place level xs rest below trees words → Ends (AreCommands closed) xs rest (end_steps place level) trees below
list_done CommandOrEnd h (at_command_or_end {a = a} before list) = (a, span_ended (codes ";") (λ p. list_ended) list, record { is = refl })
list_done {level = level} Operator h (at_operator before command) =
    let e = and_ors_end level before command in
    (e.0, span_same (λ p. unended) e.1, e.2)
list_done _ h here = cc

-- a list of a kind ends
record Ended (closed : Bool) (all : Pieces) (s : State) (kind : Inside) (xs rest : Pieces) (below : List Shell) : Type 0 where
  tree : Shell
  span : Span (AreCommands closed) xs rest tree
  makes : Makes (with_end s).steps [] (tree ∷ below)
  nested : Nested all s.outer kind s.level.elifs xs below

list_ended_in : {closed : Bool} {all xs rest : Pieces} {below trees : List Shell} (s : State) (kind : Inside) → ends_in kind s ≡ true
    → Around all s xs below trees → Here closed s.place s.level xs rest below trees [] → Ended closed all s kind xs rest below
list_ended_in {all} {xs = xs} {below = below} s kind h around here =
    let may = both_true (may_end s.place) _ h in
    let e = list_done s.place may.0 here in
    record {
      tree = e.0;
      span = e.1;
      makes = makes_more around.0 e.2;
      nested = subst (λ other. Nested all s.outer other s.level.elifs xs below) (same_inside kind s.level.inside may.1) around.1;
    }

-- the next part of an `if`
reopened : {all xs zs : Pieces} {below after : List Shell} {outer : List Level} {from to : Inside} {n m : ℕ} → ¬ (inside.Whole ≡ from)
    → Nested all outer from n xs below → ((ys : Pieces) (us : List Shell) → Opened from n ys xs us below → Opened to m ys zs us after)
    → Nested all outer to m zs after
reopened never outermost goes = absurd (never refl)
reopened never (inner nested before opened) goes = inner nested before (goes _ _ opened)

part_reads : {all xs zs : Pieces} {below trees : List Shell} (s next : State) (from to : Inside) (elifs : ℕ) (w : List ℕ) → ¬ (inside.Whole ≡ from)
    → Around all s xs below trees → Here true s.place s.level xs (w ∷ zs) below trees []
    → ((a : Shell) (ys : Pieces) (us : List Shell) → Span (AreCommands true) xs (w ∷ zs) a → Opened from s.level.elifs ys xs us below
    → Opened to elifs ys zs us (a ∷ below))
    → at_part from to elifs s ≡ Some next → Reads all true next [] zs
part_reads s next from to elifs w never around here goes h =
    let t = chosen (ends_in from s) _ next h in
    let e = list_ended_in s from t.0 around here in
    becomes t.1 (reads (e.makes, reopened never e.nested (λ ys us opened. goes e.tree ys us e.span opened)) (at_command new_begun))

-- a command ends with the list that was begun in it
left_reads : {all xs zs : Pieces} {below : List Shell} {kind : Inside} {elifs : ℕ} (s next : State) (outer : List Level)
    → Nested all outer kind elifs xs below
    → ((ys : Pieces) (us : List Shell) → Opened kind elifs ys xs us below → Ends (IsCommand true) ys zs s.steps [] us)
    → left outer s ≡ Some next → Reads all true next [] zs
left_reads s next [] nested closes h = absurd (none-some next h)
left_reads s next (level ∷ outer) (inner nested before opened) closes h =
    let e = closes _ _ opened in
    becomes h (reads (e.2, nested) (at_operator before e.1))

close_reads : {closed : Bool} {all xs zs : Pieces} {below trees : List Shell} (s next : State) (kind : Inside) (w : List ℕ)
    → Around all s xs below trees → Here closed s.place s.level xs (w ∷ zs) below trees []
    → ((a : Shell) (ys : Pieces) (us : List Shell) → Span (AreCommands closed) xs (w ∷ zs) a → Opened kind s.level.elifs ys xs us below
    → Ends (IsCommand true) ys zs [] (a ∷ below) us)
    → at_close kind s ≡ Some next → Reads all true next [] zs
close_reads s next kind w around here closes h =
    let t = chosen (ends_in kind s) _ next h in
    let e = list_ended_in s kind t.0 around here in
    left_reads (with_end s) next s.outer e.nested (λ ys us opened.
    let c = closes e.tree ys us e.span opened in (c.0, c.1, record { is = e.makes.is ∙ c.2.is })) t.1

if_or : {A : Type 0} (b : Bool) (x y : Option A) (z : A) → (if b then x else y) ≡ Some z → ((b ≡ true) × (x ≡ Some z)) ⊎ (y ≡ Some z)
if_or true x y z h = inl (refl, h)
if_or false x y z h = inr h

closing_fi : (zs : Pieces) → Span IsRest (codes "fi" ∷ zs) zs (Known true)
closing_fi zs = record { part = codes "fi" ∷ []; cut = refl; is = no_else }

else_part : {xs zs : Pieces} {c : Shell} → Span (AreCommands true) xs (codes "fi" ∷ zs) c → Span IsRest (codes "else" ∷ xs) zs c
else_part list = span_begun (codes "else") (λ p whole. whole) (span_ended {To = λ p c. IsRest (codes "else" ∷ p) c} (codes "fi") (λ p. at_else) list)

else_ends : (elifs : ℕ) {ys xs zs : Pieces} {us below : List Shell} {c : Shell} → Span (AreCommands true) xs (codes "fi" ∷ zs) c
    → Opened inside.Else elifs ys xs us below → Ends (IsCommand true) ys zs (if_steps elifs) (c ∷ below) us
else_ends elifs list (after_else opened before) = if_ends elifs opened before (else_part list)

fi_reads : {all xs zs : Pieces} {below trees : List Shell} (s next : State) → Around all s xs below trees
    → Here true s.place s.level xs (codes "fi" ∷ zs) below trees [] → at_fi s ≡ Some next → Reads all true next [] zs
fi_reads {all} {xs = xs} {zs = zs} {below = below} s next around here h =
    ⊎_elim without_else (λ other. with_else (chosen (ends_in inside.Else s) _ next other)) (if_or (ends_in inside.Then s) _ _ next h)
  where
    without_else : (ends_in inside.Then s ≡ true)
        × (left s.outer (state_with (state_with (with_end s) (step.Known true ∷ [])) (if_steps s.level.elifs)) ≡ Some next)
        → Reads all true next [] zs
    without_else t =
        let e = list_ended_in s inside.Then t.0 around here in
        let known : Makes (step.Known true ∷ []) (e.tree ∷ below) (Known true ∷ e.tree ∷ below) = record { is = refl } in
        left_reads (state_with (state_with (with_end s) (step.Known true ∷ [])) (if_steps s.level.elifs)) next s.outer e.nested (λ ys us opened.
        let c = if_ends s.level.elifs opened e.span (closing_fi zs) in (c.0, c.1, makes_more (makes_more e.makes known) c.2)) t.1

    with_else : (ends_in inside.Else s ≡ true) × (left s.outer (state_with (with_end s) (if_steps s.level.elifs)) ≡ Some next)
        → Reads all true next [] zs
    with_else t =
        let e = list_ended_in s inside.Else t.0 around here in
        left_reads (state_with (with_end s) (if_steps s.level.elifs)) next s.outer e.nested (λ ys us opened.
        let c = else_ends s.level.elifs e.span opened in (c.0, c.1, makes_more e.makes c.2)) t.1

elif_reads : {all xs zs : Pieces} {below trees : List Shell} (s next : State) → Around all s xs below trees
    → Here true s.place s.level xs (codes "elif" ∷ zs) below trees [] → at_elif s ≡ Some next → Reads all true next [] zs
elif_reads {zs = zs} {below = below} s next around here h =
    let n = s.level.elifs in
    let t = chosen (nat_lt n most_nested) _ next h in
    part_reads s next inside.Then inside.Condition (n + 1) (codes "elif") (λ e. cc) around here
    (λ a ys us span opened. subst (λ m. Opened inside.Condition m ys zs us (a ∷ below)) (sym (add-one n)) (after_elif opened span)) t.1

closes_parenthesis : {closed : Bool} {elifs : ℕ} {ys xs zs : Pieces} {us below : List Shell} (a : Shell)
    → Span (AreCommands closed) xs (codes ")" ∷ zs) a → Opened inside.Parentheses elifs ys xs us below → Ends (IsCommand true) ys zs [] (a ∷ below) us
closes_parenthesis a list after_parenthesis = (
  a,
  span_begun (codes "(") (λ p whole. whole) (span_ended {To = λ p c. IsCommand true (codes "(" ∷ p) c} (codes ")") (λ p. in_parentheses) list),
  record { is = refl },
)

closes_brace : {elifs : ℕ} {ys xs zs : Pieces} {us below : List Shell} (a : Shell) → Span (AreCommands true) xs (codes "}" ∷ zs) a
    → Opened inside.Braces elifs ys xs us below → Ends (IsCommand true) ys zs [] (a ∷ below) us
closes_brace a list after_brace = (
  a,
  span_begun (codes "{") (λ p whole. whole) (span_ended {To = λ p c. IsCommand true (codes "{" ∷ p) c} (codes "}") (λ p. in_braces) list),
  record { is = refl },
)

token_reads : {closed : Bool} {all zs : Pieces} {piece : List ℕ} {found : Token} (s next : State) → Spelled closed found piece
    → Reads all closed s [] (piece ∷ zs) → at_token found s ≡ Some next → Reads all true next [] zs
token_reads s next (word piece) (reads around here) h = absurd (none-some next h)
token_reads s next semicolon (reads around here) h = semicolon_reads s next s.place around here h
token_reads s next and (reads around here) h = join_reads s next join.And (codes "&&") s.place around here (λ ys us before a. after_and) h
token_reads s next or (reads around here) h = join_reads s next join.Or (codes "||") s.place around here (λ ys us before a. after_or) h
token_reads s next pipe (reads around here) h = pipe_reads s next s.place around here h
token_reads s next exclamation (reads around here) h = not_reads s next around here h
token_reads s next parenthesis (reads around here) h =
    open_reads s next inside.Parentheses (codes "(") around here after_parenthesis h
token_reads s next brace (reads around here) h = open_reads s next inside.Braces (codes "{") around here after_brace h
token_reads s next word_if (reads around here) h = open_reads s next inside.Condition (codes "if") around here after_if h
token_reads s next closing_parenthesis (reads around here) h =
    close_reads s next inside.Parentheses (codes ")") around here (λ a ys us. closes_parenthesis a) h
token_reads s next closing_brace (reads around here) h =
    close_reads s next inside.Braces (codes "}") around here (λ a ys us. closes_brace a) h
token_reads s next word_then (reads around here) h =
    part_reads s next inside.Condition inside.Then s.level.elifs (codes "then") (λ e. cc) around here (λ a ys us span opened. after_then opened span) h
token_reads s next word_elif (reads around here) h = elif_reads s next around here h
token_reads s next word_else (reads around here) h =
    part_reads s next inside.Then inside.Else s.level.elifs (codes "else") (λ e. cc) around here (λ a ys us span opened. after_else opened span) h
token_reads s next word_fi (reads around here) h = fi_reads s next around here h

-- the words of a simple command end
command_reads : {all xs zs words : Pieces} {below trees : List Shell} (s next : State) → Around all s xs below trees
    → Begun s.level xs (words ++ zs) below trees → AreWords words → (found : Option (List Step)) → steps_of words ≡ found
    → with_command s found ≡ Some next → Reads all false next [] zs
command_reads s next around before are None found h = absurd (none-some next h)
command_reads {words = words} {trees = trees} s next around before are (Some steps) found h =
    becomes h (reads (makes_more around.0 (record { is = simple_tree words steps found trees }), around.1)
    (at_operator before (record { part = words; cut = refl; is = simple are found })))

ended_reads : {all xs zs words : Pieces} {below trees : List Shell} (s next : State) (place : Place) → Around all s xs below trees
    → Here true place s.level xs zs below trees words → Reads all true s words zs → ended place words s ≡ Some next
    → Reads all (is_closed place) next [] zs
ended_reads s next Command around (at_command before) all_read h = becomes h all_read
ended_reads s next CommandOrEnd around (at_command_or_end before list) all_read h = becomes h all_read
ended_reads {words = words} s next Words around (at_words before are) all_read h = command_reads s next around before are (steps_of words) refl h
ended_reads s next Operator around (at_operator before command) all_read h = becomes h all_read

-- a piece
piece_reads : {all zs words : Pieces} (s next : State) (piece : List ℕ) (found : Token) → token_at s.place piece ≡ found
    → Spelled (is_closed s.place) found piece → Reads all true s words (piece ∷ zs) → after_token found words s ≡ Some next
    → Reads all true next (words_after found piece words) zs
piece_reads s next piece token.Word is spelled (reads around here) h = word_reads s next piece s.place around here is h
piece_reads {words = words} s next piece found is spelled (reads around here) h =
    option_and_then_some (at_token found) (ended s.place words s) next h
    (λ between first second. token_reads between next spelled (ended_reads s between s.place around here (reads around here) first) second)

-- the end
whole_list : {closed : Bool} {all xs : Pieces} {outer : List Level} {elifs : ℕ} {below : List Shell} {a : Shell}
    → Nested all outer inside.Whole elifs xs below → Span (AreCommands closed) xs [] a → AreCommands closed all a
whole_list {closed} {a = a} outermost span = subst (λ p. AreCommands closed p a) (sym (append-nil span.part) ∙ sym span.cut) span.is
whole_list (inner nested before opened) span = elim opened [ ]

whole_reads : {closed : Bool} {all : Pieces} (s : State) (steps : List Step) → Reads all closed s [] []
    → whole s ≡ Some steps → IsList all (tree_of steps)
whole_reads {closed} {all} s steps (reads around here) h =
    let t = chosen (ends_in inside.Whole s) _ steps h in
    let e = list_ended_in s inside.Whole t.0 around here in
    subst (IsList all) (sym (ap top e.makes.is) ∙ ap tree_of (same_Some _ steps t.1)) (closed, whole_list e.nested e.span)

all_read : {all : Pieces} (pieces words : Pieces) (s : State) (steps : List Step) → Reads all true s words pieces
    → steps_from words s pieces ≡ Some steps → IsList all (tree_of steps)
all_read [] words s steps (reads around here) h =
    option_and_then_some whole (ended s.place words s) steps h
    (λ next first second. whole_reads next steps (ended_reads s next s.place around here (reads around here) first) second)
all_read (piece ∷ pieces) words s steps so_far h =
    let found = token_at s.place piece in
    option_and_then_some (λ next. steps_from (words_after found piece words) next pieces) (after_token found words s) steps h
    (λ next first rest. all_read pieces (words_after found piece words) next steps
    (piece_reads s next piece found refl (spelled_at s.place piece) so_far first) rest)

start_reads : (all : Pieces) → Reads all true start [] all
start_reads all = reads (record { is = refl }, outermost) (at_command new_begun)

pub read_is_in_grammar : (command : List ℕ) (steps : List Step) → steps_in command ≡ Some steps
    → (pieces : List (List ℕ)) × (pieces_of command ≡ Some pieces) × IsList pieces (tree_of steps)
read_is_in_grammar command steps h =
    option_and_then_some (steps_from [] start) (pieces_of command) steps h
    (λ pieces cut read. (pieces, cut, all_read pieces [] start steps (start_reads pieces) read))
