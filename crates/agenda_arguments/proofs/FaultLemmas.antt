-- Clap leaves open which of several kinds of error it returns. `agenda` and `agenda machine` answer all of them in the same way.
-- For `asked_by_agenda` and `asked_by_machine`, if clap rejects the arguments. There is one lemma for each of clap's definitions of
-- errors, from one use of an argument up to the whole command. The walk goes by induction over the arguments.
-- Only `stray` has two kinds.
use Rattle.std.proofs.Common.{◌≡◌, ◌∙◌, ◌&&◌, ◌||◌, ◌⊎◌, ◌==◌, ◌+◌, ℕ, Bool, true, false, zero, suc, List, [], ◌∷◌, Option, Some, None, Result, Err, ap, sym, subst, inl, inr, refl, not, cond, min, drop, length, nat_lt, codes}
use Rattle.std.specs.Prelude.{encode_utf8, find, if◌then◌else◌, is_some, slice_get}
use Rattle.std.specs.List.{list_all}
use Rattle.std.specs.Option.{option_map_or}
use Rattle.std.specs.Str.{bytes_eq, chars}
use Rattle.clap.proofs.OnLiterals.{clap_on_literals}
use Rattle.clap.proofs.WalkLemmas.{both}
use Rattle.clap.specs.Facts.{parser_of_value, unwrap_or_range}
use Rattle.clap.specs.Faults.{action_fault, built_fault, bundle_step_fault, count_fault, default_fault, defaults_fault, entered_fault, fault_of, flag_word_fault, flags_fault, is_simple_and_free, level_fault, long_fault, option_fault, other_fault, react_fault, repeat_fault, set_fault, settle_fault, short_fault, step_fault, stray_fault, turn_fault, use_fault, values_fault, walk_fault, word_fault}
use Rattle.clap.specs.Kinds.{Kinds, IsAmong, check_kinds, or_else, range_kinds, request_kinds, value_kinds, values_kinds}
use Rattle.clap.specs.Lexer.{long_of, short_of}
use Rattle.clap.specs.Matches.{count_text}
use Rattle.clap.specs.Simple.{App, Shape, argument_words, built, entered, is_simple, label_of, names_of}
use Rattle.clap.specs.ValueTests.{accepts}
use Rattle.clap.specs.Values.{refused_kind}
use Rattle.clap.specs.Walk.{Held, Names, Row, Rule, Step, Text, Walk, action_of, answers_to, arg_by_id, arg_by_index, arg_by_long, arg_by_short, attached_value, count_of, has_row, is_empty, is_pending, most_values, next, nothing_held, reacted, settled, subcommand, subcommand_met, takes_several, takes_values, trailing, value, values_or_missing, walk, walk_from, walked, with_default, word_met}
use Rattle.clap.specs.declared.builder.action.ArgAction.{ArgAction}
use Rattle.clap.specs.declared.builder.action.ArgAction.TheVariants as action
use Rattle.clap.specs.declared.builder.value_parser.ValueParser.{ValueParser}
use Rattle.clap.specs.declared.error.kind.ErrorKind.{ErrorKind}
use Rattle.clap.specs.declared.error.kind.ErrorKind.TheVariants as kind
use Rattle.agenda_arguments.specs.declared.ask.Ask.{Ask}
use Rattle.agenda_arguments.specs.declared.ask.UsageFault.{UsageFault}
use Rattle.agenda_arguments.specs.declared.ask.UsageFault.TheVariants.{NoMemory}
use Rattle.agenda_options.specs.Command.{agenda, machine}
use Rattle.agenda_arguments.specs.Arguments.{Follows, IsAnswerTo}
use Rattle.agenda_arguments.specs.Values.{ArgumentsFault, asked_unless, fault_of_kind, is_usage}
use Rattle.agenda_arguments.proofs.OnLiterals.{agenda_on_literals}

-- all of these kinds are answered by the same fault
pub record Alike (kinds : Kinds) : Type 0 where
  pub same : (a b : ErrorKind) → IsAmong a kinds → IsAmong b kinds → fault_of_kind a ≡ fault_of_kind b

none : Alike []
none = record { same = λ a b x y. absurd x }

only : (k a : ErrorKind) → IsAmong a (k ∷ []) → fault_of_kind a ≡ fault_of_kind k
only k a (inl e) = ap fault_of_kind e
only k a (inr h) = absurd h

one : (k : ErrorKind) → Alike (k ∷ [])
one k = record { same = λ a b x y. only k a x ∙ sym (only k b y) }

first_of_either : (a : ErrorKind) → IsAmong a (kind.UnknownArgument ∷ kind.InvalidSubcommand ∷ []) → fault_of_kind a ≡ is_usage
first_of_either a (inl e) = ap fault_of_kind e
first_of_either a (inr (inl e)) = ap fault_of_kind e
first_of_either a (inr (inr h)) = absurd h

stray : Alike (kind.UnknownArgument ∷ kind.InvalidSubcommand ∷ [])
stray = record { same = λ a b x y. first_of_either a x ∙ sym (first_of_either b y) }

choice : (b : Bool) (x y : Kinds) → Alike x → Alike y → Alike (if b then x else y)
choice true x y p q = p
choice false x y p q = q

either : (x y : Kinds) → Alike x → Alike y → Alike (or_else x y)
either [] y p q = q
either (k ∷ ks) y p q = p

mapped : {X : Type 0} (f : X → Kinds) (o : Option X) (d : Kinds) → ((x : X) → Alike (f x)) → Alike d → Alike (option_map_or f o d)
mapped f None d p q = q
mapped f (Some x) d p q = p x

-- ---- one use of an argument

value_alike : (i : Bool) (p : ValueParser) (text : Text) → Alike (value_kinds i p text)
value_alike i p text = choice (accepts i p text) [] (refused_kind p ∷ []) none (one (refused_kind p))

values_alike : (i : Bool) (p : ValueParser) (values : List Text) → Alike (values_kinds i p values)
values_alike i p [] = none
values_alike i p (v ∷ vs) = either (value_kinds i p v) (values_kinds i p vs) (value_alike i p v) (values_alike i p vs)

values_fault_alike : (a : Rule) (values : List Text) → Alike (values_fault a values)
values_fault_alike a values = values_alike a.ignore_case (parser_of_value a.parser) values

count_alike : (a : Rule) (values : List Text) (rows : List Row) → Alike (count_fault a values rows)
count_alike a [] rows = value_alike a.ignore_case (parser_of_value a.parser) (count_text (min (count_of a.id rows + 1) 255))
count_alike a (v ∷ vs) rows = values_fault_alike a (v ∷ vs)

set_alike : (again : Bool) (a : Rule) (values : List Text) (rows : List Row) → Alike (set_fault again a values rows)
set_alike again a values rows = either (repeat_fault again a.id rows) (values_fault a values)
    (choice (has_row a.id rows && not again) (kind.ArgumentConflict ∷ []) [] (one kind.ArgumentConflict) none) (values_fault_alike a values)

request_alike : (action : ArgAction) → Alike (request_kinds action)
request_alike action.Help = one kind.DisplayHelp
request_alike action.HelpShort = one kind.DisplayHelp
request_alike action.HelpLong = one kind.DisplayHelp
request_alike action.Version = one kind.DisplayVersion
request_alike action.Set = none
request_alike action.Append = none
request_alike action.SetTrue = none
request_alike action.SetFalse = none
request_alike action.Count = none

action_alike :
    (action : ArgAction) (again : Bool) (a : Rule) (values : List Text) (rows : List Row) → Alike (action_fault action again a values rows)
action_alike action.Set again a values rows = set_alike again a values rows
action_alike action.SetTrue again a values rows = set_alike again a values rows
action_alike action.SetFalse again a values rows = set_alike again a values rows
action_alike action.Append again a values rows = values_fault_alike a values
action_alike action.Count again a values rows = count_alike a values rows
action_alike action.Help again a values rows = one kind.DisplayHelp
action_alike action.HelpShort again a values rows = one kind.DisplayHelp
action_alike action.HelpLong again a values rows = one kind.DisplayHelp
action_alike action.Version again a values rows = one kind.DisplayVersion

range_alike : (least most n : ℕ) → Alike (range_kinds least most n)
range_alike least most n =
    choice (nat_lt 0 least && n == 0) (kind.InvalidValue ∷ []) _ (one kind.InvalidValue)
    (choice (least == most) _ _ (choice (least == n) [] (kind.WrongNumberOfValues ∷ []) none (one kind.WrongNumberOfValues))
    (choice (nat_lt n least) (kind.TooFewValues ∷ []) _ (one kind.TooFewValues)
    (choice (nat_lt most n) (kind.TooManyValues ∷ []) [] (one kind.TooManyValues) none)))

use_alike : (again : Bool) (a : Rule) (values : List Text) (rows : List Row) → Alike (use_fault again a values rows)
use_alike again a values rows = either _ _ (range_alike (unwrap_or_range a.range).start_inclusive (most_values a) (length values))
    (action_alike (action_of a) again a (values_or_missing a values) rows)

-- ---- the walk over the arguments

settle_alike : (c : List Rule) (again : Bool) (h : Held) → Alike (settle_fault c again h)
settle_alike c again h = mapped _ h.pending [] (λ p. mapped _ (arg_by_id c p.0) [] (λ a. use_alike again a p.1 h.rows) none) none

react_alike : (c : List Rule) (again : Bool) (a : Rule) (values : List Text) (h : Held) → Alike (react_fault c again a values h)
react_alike c again a values h = either _ _ (settle_alike c again h) (use_alike again a values (settled c h).rows)

option_alike : (c : List Rule) (again : Bool) (a : Rule) (v : Option Text) (h : Held) → Alike (option_fault c again a v h)
option_alike c again a (Some v) h = react_alike c again a (v ∷ []) h
option_alike c again a None h = settle_alike c again h

long_alike : (c : List Rule) (again : Bool) (a : Option Rule) (v : Option Text) (h : Held) → Alike (long_fault c again a v h)
long_alike c again None v h = one kind.UnknownArgument
long_alike c again (Some a) v h = choice (takes_values a) _ _ (option_alike c again a v h)
    (choice (is_some v) (kind.TooManyValues ∷ []) _ (one kind.TooManyValues) (react_alike c again a [] h))

short_alike :
    (c : List Rule) (again : Bool) (a : Option Rule) (rest : Text) (h : Held) (more : Held → Kinds) → ((g : Held) → Alike (more g))
    → Alike (short_fault c again a rest h more)
short_alike c again None rest h more p = one kind.UnknownArgument
short_alike c again (Some a) rest h more p = choice (takes_values a) _ _ (option_alike c again a (attached_value rest) h)
    (either _ _ (react_alike c again a [] h) (p (reacted c a [] h)))

bundle_step_alike : (c : List Rule) (again : Bool) (x : Option ℕ) (flags : Text) (skip : ℕ) (h : Held) (more : Text → ℕ → Held → Kinds)
    → ((t : Text) (k : ℕ) (g : Held) → Alike (more t k g)) → Alike (bundle_step_fault c again x flags skip h more)
bundle_step_alike c again None flags skip h more p = none
bundle_step_alike c again (Some x) flags zero h more p =
    let rest = drop (length (encode_utf8 x)) flags in
    short_alike c again (arg_by_short c x) rest h (more rest 0) (p rest 0)
bundle_step_alike c again (Some x) flags (suc skip) h more p = p (drop (length (encode_utf8 x)) flags) skip h

flags_alike : (c : List Rule) (again : Bool) (k : ℕ) (flags : Text) (skip : ℕ) (h : Held) → Alike (flags_fault c again k flags skip h)
unfolding flags_fault
flags_alike c again zero flags skip h = none
flags_alike c again (suc k) flags skip h =
    bundle_step_alike c again (slice_get (chars flags) 0) flags skip h (flags_fault c again k) (flags_alike c again k)

flag_word_alike :
    (c : List Rule) (again : Bool) (long : Option (Text × Option Text)) (word : Text) (h : Held) →
    Alike (flag_word_fault c again long word h)
flag_word_alike c again (Some p) word h = long_alike c again (arg_by_long c p.0) p.1 h
flag_word_alike c again None word h =
    mapped _ (short_of word) [] (λ flags. flags_alike c again (length flags) flags h.skip (record h { skip = 0 })) none

never : (b : Bool) → (b && false) ≡ false
never true = refl
never false = refl

-- without a subcommand `help`
other_alike :
    (s : Shape) → s.disable_help_subcommand ≡ true → (met : Option Text) (word : Text) (h : Held) → Alike (other_fault s met word h)
other_alike s plain (Some name) word h = rw (plain, never (bytes_eq name (codes "help"))) none
other_alike s plain None word h =
    choice (bytes_eq word (45 ∷ 45 ∷ [])) [] _ none (flag_word_alike s.rules s.args_override_self (long_of word) word h)

step_alike : (s : Shape) (position : ℕ) (h : Held) (step : Step) → Alike (step_fault s position h step)
step_alike s position h value = mapped _ (arg_by_index s.rules position) (stray_fault s)
    (λ a. choice (is_pending a h.pending && takes_several a) [] _ none (settle_alike s.rules s.args_override_self h))
    (choice s.is_leaf (kind.UnknownArgument ∷ []) (kind.UnknownArgument ∷ kind.InvalidSubcommand ∷ []) (one kind.UnknownArgument) stray)
step_alike s position h (next waiting) = none
step_alike s position h (trailing at) = none
step_alike s position h (subcommand name) = none

turn_alike : (s : Shape) → s.disable_help_subcommand ≡ true → (names : Names) (w : Walk) (word : Text) → Alike (turn_fault s names w word)
turn_alike s plain names w word =
    let met = word_met s.rules names w.is_trailing w.waiting w.position word w.held in
    choice (is_some w.stopped) [] _ none
    (either (word_fault s names w.is_trailing w.waiting word w.held) (step_fault s w.position met.0 met.1)
    (choice w.is_trailing [] _ none (other_alike s plain (subcommand_met names w.waiting word) word w.held))
    (step_alike s w.position met.0 met.1))

walk_alike :
    (s : Shape) → s.disable_help_subcommand ≡ true → (names : Names) (w : Walk) (words : List Text) → Alike (walk_fault s names w words)
unfolding walk_fault
walk_alike s plain names w [] = none
walk_alike s plain names w (word ∷ rest) = either _ _ (turn_alike s plain names w word)
    (walk_alike s plain names (walked s.rules names w word) rest)

-- ---- after the walk

default_alike : (rows : List Row) (a : Rule) → Alike (default_fault rows a)
default_alike rows a = choice (has_row a.id rows || is_empty a.defaults) [] _ none
    (either _ _ (request_alike (action_of a)) (values_fault_alike a a.defaults))

defaults_alike : (rows : List Row) (rules : List Rule) → Alike (defaults_fault rows rules)
unfolding defaults_fault
defaults_alike rows [] = none
defaults_alike rows (a ∷ rest) = either _ _ (default_alike rows a) (defaults_alike (with_default rows a) rest)

check_alike : (a b c : Bool) → Alike (check_kinds a b c)
check_alike a b c = choice a (kind.DisplayHelpOnMissingArgumentOrSubcommand ∷ []) _ (one kind.DisplayHelpOnMissingArgumentOrSubcommand)
    (choice b (kind.MissingSubcommand ∷ []) _ (one kind.MissingSubcommand)
    (choice c (kind.MissingRequiredArgument ∷ []) [] (one kind.MissingRequiredArgument) none))

level_alike :
    (s : Shape) → s.disable_help_subcommand ≡ true → (names : Names) (h : Held) (words : List Text) (has : Bool) (below : Kinds) →
    Alike below
    → Alike (level_fault s names h words has below)
level_alike s plain names h words has below p =
    let end = (walk s.rules names h words).held in
    either (walk_fault s names (walk_from h) words) _ (walk_alike s plain names (walk_from h) words)
    (either below _ p
    (either (settle_fault s.rules s.args_override_self end) _ (settle_alike s.rules s.args_override_self end)
    (either (defaults_fault (settled s.rules end).rows s.rules) _ (defaults_alike (settled s.rules end).rows s.rules) (check_alike _ _ _))))

abbrev has_no_help : Shape → Bool
has_no_help s = s.disable_help_subcommand

found_alike : (f : Shape → Kinds) (p : Shape → Bool) (subs : List Shape) → list_all has_no_help subs ≡ true
    → ((s : Shape) → s.disable_help_subcommand ≡ true → Alike (f s)) → Alike (option_map_or f (find p subs) [])
found_alike f p [] all alike = none
found_alike f p (s ∷ rest) all alike =
    let parts = both (has_no_help s) (list_all has_no_help rest) all in
    go (p s) (alike s parts.0) (found_alike f p rest parts.1 alike)
  where
    go : (b : Bool) → Alike (f s) → Alike (option_map_or f (find p rest) []) → Alike (option_map_or f (cond b (Some s) (find p rest)) [])
    go true here later = here
    go false here later = later

built_alike : (a : App) (words : List Text) → a.top.disable_help_subcommand ≡ true → list_all has_no_help a.subs ≡ true
    → Alike (built_fault a nothing_held words)
built_alike a words top subs =
    let stop = (walk a.top.rules (names_of a) nothing_held words).stopped in
    level_alike a.top top (names_of a) nothing_held words (is_some (entered a stop)) (entered_fault a stop)
    (mapped _ stop [] (λ p. found_alike (λ s. level_fault s [] nothing_held p.1 false []) (λ s. answers_to p.0 (label_of s)) a.subs subs
    (λ s plain. level_alike s plain [] nothing_held p.1 false [] none)) none)

-- ---- the command line of `agenda`

-- clap's contracts say exactly how it reads the command line
pub agenda_is_simple : is_simple agenda ≡ true
unfolding clap_on_literals agenda_on_literals
agenda_is_simple = refl

pub agenda_is_free : is_simple_and_free agenda ≡ true
unfolding clap_on_literals agenda_on_literals
agenda_is_free = refl

-- the kinds of error that clap leaves open are answered in the same way
pub agenda_alike : (words : List Text) → Alike (fault_of agenda words)
unfolding clap_on_literals agenda_on_literals
agenda_alike words = built_alike (built agenda) (argument_words agenda words) refl refl

-- ---- the command line of `agenda machine`, with the same facts

pub machine_is_simple : is_simple machine ≡ true
unfolding clap_on_literals agenda_on_literals
machine_is_simple = refl

pub machine_is_free : is_simple_and_free machine ≡ true
unfolding clap_on_literals agenda_on_literals
machine_is_free = refl

pub machine_alike : (words : List Text) → Alike (fault_of machine words)
unfolding clap_on_literals agenda_on_literals
machine_alike words = built_alike (built machine) (argument_words machine words) refl refl

-- ---- the answers to errors from clap

-- an error from clap is answered as the definition says
listed : (kinds : Kinds) → Alike kinds → (k : ErrorKind) → IsAmong k kinds → (read : Result Ask ArgumentsFault)
    → asked_unless kinds read ≡ Err (fault_of_kind k)
listed [] alike k among read = absurd among
listed (first ∷ rest) alike k among read = ap Err (alike.same first k (inl refl) among)

answered : (k : ErrorKind) (fault : UsageFault) (read : Result Ask ArgumentsFault) → IsAnswerTo k fault
    → (k ≡ kind.OutOfMemory) ⊎ (read ≡ Err (fault_of_kind k)) → Follows (Err fault) read
answered k fault read answer (inl memory) = no_memory fault (subst (λ x. IsAnswerTo x fault) memory answer)
  where
    no_memory : (f : UsageFault) → f ≡ NoMemory → Follows {X = Ask} (Err f) read
    no_memory f is = subst (λ (x : UsageFault). Follows {X = Ask} (Err x) read) (sym is) tt
answered kind.OutOfMemory fault read answer (inr is) = subst (λ (x : UsageFault). Follows {X = Ask} (Err x) read) (sym answer) tt
answered kind.DisplayHelp fault read answer (inr is) = subst (λ (x : UsageFault). Follows {X = Ask} (Err x) read) (sym answer.1) is
answered kind.DisplayVersion fault read answer (inr is) = subst (λ (x : UsageFault). Follows {X = Ask} (Err x) read) (sym answer.1) is
answered k fault read answer (inr is) = subst (λ (x : UsageFault). Follows {X = Ask} (Err x) read) (sym answer.1) is

-- the answer to an error from clap, which is out of memory or one of the kinds that are listed
pub rejected : (kinds : Kinds) → Alike kinds → (k : ErrorKind) (fault : UsageFault) (read : Result Ask ArgumentsFault) → IsAnswerTo k fault
    → (k ≡ kind.OutOfMemory) ⊎ IsAmong k kinds → Follows (Err fault) (asked_unless kinds read)
rejected kinds alike k fault read answer is = answered k fault (asked_unless kinds read) answer (elim is [
  | inl memory ↦ inl memory
  | inr among ↦ inr (listed kinds alike k among read)
])
