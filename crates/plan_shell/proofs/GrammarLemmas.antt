-- What has been read of a list that hasn't ended, and how a command, a pipeline and a list end it.
use Rattle.std.proofs.Common.{◌≡◌, ℕ, suc, Bool, true, false, if◌then◌else◌, ◌∙◌, ap, sym, refl, List, [], ◌∷◌, ◌++◌, codes, append_assoc}
use Rattle.plan_shell.specs.declared.step.Step.{Step}
use Rattle.plan_shell.specs.declared.step.Step.TheVariants as step
use Rattle.plan_shell.specs.declared.level.Join.{Join}
use Rattle.plan_shell.specs.declared.level.Join.TheVariants as join
use Rattle.plan_shell.specs.declared.level.Inside.{Inside}
use Rattle.plan_shell.specs.declared.level.Inside.TheVariants as inside
use Rattle.plan_shell.specs.declared.level.Level.{Level}
use Rattle.plan_shell.specs.Grammar.{AreAndOrs, AreCommands, ArePiped, IsAndOr, IsCommand, IsIf, IsPipeline, IsRest, and, at_elif, choice, more, negated, one_and_or, one_command, one_pipeline, or, parts, pipe, plain}
use Rattle.plan_shell.specs.Reading.{ending_steps, if_steps, join_steps, list_steps, not_steps, pipe_steps, pipeline_steps}
use Rattle.plan_shell.specs.Tree.{Shell, Not, Both, And, Or, If, with_steps}
use Rattle.plan_shell.proofs.SimpleLemmas.{after_steps}

abbrev pub Pieces : Type 0
Pieces = List (List ℕ)

-- the first of some pieces, up to others, are a part of a command
pub record Span (Is : Pieces → Shell → Type 0) (from to : Pieces) (a : Shell) : Type 0 where
  pub part : Pieces
  pub cut : from ≡ part ++ to
  pub is : Is part a

module _ {Is To : Pieces → Shell → Type 0} {xs ys : Pieces} {a b : Shell} where
  pub span_same : ((p : Pieces) → Is p a → To p b) → Span Is xs ys a → Span To xs ys b
  span_same make span = record { part = span.part; cut = span.cut; is = make span.part span.is }

  -- with a piece before it
  pub span_begun : (w : List ℕ) → ((p : Pieces) → Is p a → To (w ∷ p) b) → Span Is xs ys a → Span To (w ∷ xs) ys b
  span_begun w make span = record { part = w ∷ span.part; cut = ap (λ rest. w ∷ rest) span.cut; is = make span.part span.is }

  -- with a piece after it
  pub span_ended : (w : List ℕ) → ((p : Pieces) → Is p a → To (p ++ w ∷ []) b) → Span Is xs (w ∷ ys) a → Span To xs ys b
  span_ended w make span = record {
    part = span.part ++ w ∷ [];
    cut = span.cut ∙ sym (append_assoc span.part (w ∷ []) ys);
    is = make span.part span.is;
  }

-- with a piece and another part after it
pub span_join : {Is Other To : Pieces → Shell → Type 0} {xs ys zs : Pieces} {a b c : Shell} (w : List ℕ)
    → ((p q : Pieces) → Is p a → Other q b → To (p ++ w ∷ q) c) → Span Is xs (w ∷ ys) a → Span Other ys zs b → Span To xs zs c
span_join {zs = zs} w make first second = record {
  part = first.part ++ w ∷ second.part;
  cut = first.cut ∙ ap (λ rest. first.part ++ w ∷ rest) second.cut ∙ sym (append_assoc first.part (w ∷ second.part) zs);
  is = make first.part second.part first.is second.is;
}

-- ---- a list, as far as it has been read: its pieces from `xs` up to `ys`, and the trees that it added to those below it

pub data ListBegun : (is_second : Bool) (xs ys : Pieces) (below trees : List Shell) → Type 0 where
  no_list : {xs : Pieces} {below : List Shell} → ListBegun false xs xs below below
  after_semicolon : {closed : Bool} {xs ys : Pieces} {below : List Shell} {a : Shell} → Span (AreAndOrs closed) xs (codes ";" ∷ ys) a
      → ListBegun true xs ys below (a ∷ below)

pub data JoinBegun : Join → (xs ys : Pieces) (below trees : List Shell) → Type 0 where
  no_join : {xs : Pieces} {below : List Shell} → JoinBegun join.None xs xs below below
  after_and : {closed : Bool} {xs ys : Pieces} {below : List Shell} {a : Shell} → Span (IsAndOr closed) xs (codes "&&" ∷ ys) a
      → JoinBegun join.And xs ys below (a ∷ below)
  after_or : {closed : Bool} {xs ys : Pieces} {below : List Shell} {a : Shell} → Span (IsAndOr closed) xs (codes "||" ∷ ys) a
      → JoinBegun join.Or xs ys below (a ∷ below)

pub data NotBegun : (is_negated : Bool) (xs ys : Pieces) → Type 0 where
  no_not : {xs : Pieces} → NotBegun false xs xs
  after_not : {ys : Pieces} → NotBegun true (codes "!" ∷ ys) ys

pub data PipeBegun : (is_piped : Bool) (xs ys : Pieces) (below trees : List Shell) → Type 0 where
  no_pipe : {xs : Pieces} {below : List Shell} → PipeBegun false xs xs below below
  after_pipe : {closed : Bool} {xs ys : Pieces} {below : List Shell} {a : Shell} → Span (ArePiped closed) xs (codes "|" ∷ ys) a
      → PipeBegun true xs ys below (a ∷ below)

pub data Begun (level : Level) (xs ys : Pieces) (below trees : List Shell) : Type 0 where
  begun : {ands pipeline pipes : Pieces} {first second : List Shell} → ListBegun level.is_second xs ands below first
      → JoinBegun level.join ands pipeline first second → NotBegun level.is_negated pipeline pipes
      → PipeBegun level.is_piped pipes ys second trees → Begun level xs ys below trees

-- what steps make of trees
pub record Makes (steps : List Step) (trees after : List Shell) : Type 0 where
  pub is : with_steps steps trees ≡ after

pub makes_more : {steps rest : List Step} {trees between after : List Shell} → Makes steps trees between → Makes rest between after
    → Makes (steps ++ rest) trees after
makes_more {steps = steps} {rest = rest} {trees = trees} first second =
    record { is = after_steps steps rest trees ∙ ap (with_steps rest) first.is ∙ second.is }

-- a part ends, which makes one tree with what was before it
abbrev pub Ends : (Pieces → Shell → Type 0) → (xs ys : Pieces) → List Step → (trees below : List Shell) → Type 0
Ends Is xs ys steps trees below = (a : Shell) × Span Is xs ys a × Makes steps trees (a ∷ below)

pub pipe_ends : (is_piped : Bool) {closed : Bool} {xs ys zs : Pieces} {below trees : List Shell} {b : Shell} → PipeBegun is_piped xs ys below trees
    → Span (IsCommand closed) ys zs b → Ends (ArePiped closed) xs zs (if is_piped then step.Both ∷ [] else []) (b ∷ trees) below
pipe_ends false {b = b} no_pipe span = (b, span_same (λ p. one_command) span, record { is = refl })
pipe_ends true {b = b} (after_pipe {a = a} before) span = (Both a b, span_join (codes "|") (λ p q. pipe) before span, record { is = refl })

not_ends : (is_negated : Bool) {closed : Bool} {xs ys zs : Pieces} {trees : List Shell} {b : Shell} → NotBegun is_negated xs ys
    → Span (ArePiped closed) ys zs b → Ends (IsPipeline closed) xs zs (if is_negated then step.Not ∷ [] else []) (b ∷ trees) trees
not_ends false {b = b} no_not span = (b, span_same (λ p. plain) span, record { is = refl })
not_ends true {b = b} after_not span = (Not b, span_begun (codes "!") (λ p. negated) span, record { is = refl })

join_ends : (joined : Join) {closed : Bool} {xs ys zs : Pieces} {below trees : List Shell} {b : Shell} → JoinBegun joined xs ys below trees
    → Span (IsPipeline closed) ys zs b → Ends (IsAndOr closed) xs zs (join_steps joined) (b ∷ trees) below
join_ends join.None {b = b} no_join span = (b, span_same (λ p. one_pipeline) span, record { is = refl })
join_ends join.And {b = b} (after_and {a = a} before) span = (And a b, span_join (codes "&&") (λ p q. and) before span, record { is = refl })
join_ends join.Or {b = b} (after_or {a = a} before) span = (Or a b, span_join (codes "||") (λ p q. or) before span, record { is = refl })

list_ends : (is_second : Bool) {closed : Bool} {xs ys zs : Pieces} {below trees : List Shell} {b : Shell} → ListBegun is_second xs ys below trees
    → Span (IsAndOr closed) ys zs b → Ends (AreAndOrs closed) xs zs (if is_second then step.Both ∷ [] else []) (b ∷ trees) below
list_ends false {b = b} no_list span = (b, span_same (λ p. one_and_or) span, record { is = refl })
list_ends true {b = b} (after_semicolon {a = a} before) span = (Both a b, span_join (codes ";") (λ p q. more) before span, record { is = refl })

-- a pipeline ends, and the ones that it is joined to
abbrev pub EndsAndOr : Level → (closed : Bool) → (xs zs : Pieces) → (trees below : List Shell) → Type 0
EndsAndOr level closed xs zs trees below =
    (ands : Pieces) × (first : List Shell) × ListBegun level.is_second xs ands below first
    × Ends (IsAndOr closed) ands zs (pipeline_steps level) trees first

pub and_or_ends : (level : Level) {closed : Bool} {xs ys zs : Pieces} {below trees : List Shell} {c : Shell} → Begun level xs ys below trees
    → Span (IsCommand closed) ys zs c → EndsAndOr level closed xs zs (c ∷ trees) below
and_or_ends level {closed} {zs = zs}
    (begun {ands = ands} {pipeline = pipeline} {pipes = pipes} {first = first} {second = second} before joined negation piped) span =
    let p : Ends (ArePiped closed) pipes zs (pipe_steps level) _ second = pipe_ends level.is_piped piped span in
    let n : Ends (IsPipeline closed) pipeline zs (not_steps level) (p.0 ∷ second) second = not_ends level.is_negated negation p.1 in
    let j : Ends (IsAndOr closed) ands zs (join_steps level.join) (n.0 ∷ second) first = join_ends level.join joined n.1 in
    (ands, first, before, (j.0, j.1, makes_more (makes_more p.2 n.2) j.2))

-- a list ends after a command
pub and_ors_end : (level : Level) {closed : Bool} {xs ys zs : Pieces} {below trees : List Shell} {c : Shell} → Begun level xs ys below trees
    → Span (IsCommand closed) ys zs c → Ends (AreAndOrs closed) xs zs (ending_steps level) (c ∷ trees) below
and_ors_end level {closed} {xs = xs} {zs = zs} {below = below} before span =
    let a : EndsAndOr level closed xs zs _ below = and_or_ends level before span in
    let l : Ends (AreAndOrs closed) xs zs (list_steps level) (a.3.0 ∷ a.1) below = list_ends level.is_second a.2 a.3.1 in
    (l.0, l.1, makes_more a.3.2 l.2)

-- ---- where a list begins in a command

-- the pieces of a command from `xs` up to its list at `ys`, and the trees that it added
pub data Opened : (kind : Inside) (elifs : ℕ) (xs ys : Pieces) (below trees : List Shell) → Type 0 where
  after_parenthesis : {elifs : ℕ} {ys : Pieces} {below : List Shell} → Opened inside.Parentheses elifs (codes "(" ∷ ys) ys below below
  after_brace : {elifs : ℕ} {ys : Pieces} {below : List Shell} → Opened inside.Braces elifs (codes "{" ∷ ys) ys below below
  after_if : {ys : Pieces} {below : List Shell} → Opened inside.Condition 0 (codes "if" ∷ ys) ys below below
  after_elif : {elifs : ℕ} {xs ys zs : Pieces} {below trees : List Shell} {b : Shell} → Opened inside.Then elifs xs ys below trees
      → Span (AreCommands true) ys (codes "elif" ∷ zs) b → Opened inside.Condition (suc elifs) xs zs below (b ∷ trees)
  after_then : {elifs : ℕ} {xs ys zs : Pieces} {below trees : List Shell} {a : Shell} → Opened inside.Condition elifs xs ys below trees
      → Span (AreCommands true) ys (codes "then" ∷ zs) a → Opened inside.Then elifs xs zs below (a ∷ trees)
  after_else : {elifs : ℕ} {xs ys zs : Pieces} {below trees : List Shell} {b : Shell} → Opened inside.Then elifs xs ys below trees
      → Span (AreCommands true) ys (codes "else" ∷ zs) b → Opened inside.Else elifs xs zs below (b ∷ trees)

span_parts : {xs ys zs us : Pieces} {a b c : Shell} → Span (AreCommands true) xs (codes "then" ∷ ys) a → Span (AreCommands true) ys zs b
    → Span IsRest zs us c → Span IsIf xs us (If a b c)
span_parts {zs = zs} {us = us} first second third = record {
  part = first.part ++ codes "then" ∷ second.part ++ third.part;
  cut = first.cut ∙ ap (λ rest. first.part ++ codes "then" ∷ rest) second.cut ∙ sym (append_assoc first.part (codes "then" ∷ second.part) zs)
      ∙ ap (λ rest. first.part ++ codes "then" ∷ second.part ++ rest) third.cut
      ∙ sym (append_assoc (first.part ++ codes "then" ∷ second.part) third.part us);
  is = parts first.is second.is third.is;
}

-- an `if` ends, and those that its `elif`s began
pub if_ends : (elifs : ℕ) {xs ys zs us : Pieces} {below trees : List Shell} {b c : Shell} → Opened inside.Then elifs xs ys below trees
    → Span (AreCommands true) ys zs b → Span IsRest zs us c → Ends (IsCommand true) xs us (if_steps elifs) (c ∷ b ∷ trees) below
if_ends elifs {b = b} {c = c} (after_then {a = a} after_if condition) then_part rest =
    (If a b c, span_begun (codes "if") (λ p. choice) (span_parts condition then_part rest), record { is = refl })
if_ends elifs {b = b} {c = c} (after_then {a = a} (after_elif {elifs = fewer} opened before) condition) then_part rest =
    let outer = if_ends fewer opened before (span_begun (codes "elif") (λ p. at_elif) (span_parts condition then_part rest)) in
    (outer.0, outer.1, record { is = outer.2.is })
