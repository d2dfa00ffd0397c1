-- What a command finds in a tree that has the same as another one at the known places.
use Rattle.std.proofs.Common.{◌≡◌, ◌≢◌, ◌⊎◌, inl, inr, ℕ, zero, suc, ◌≤◌, Bool, true, false, not, ◌&&◌, ◌||◌, cond, ◌==◌, bit_and, List, [], ◌∷◌, ◌++◌, codes, length, Option, Some, None, refl, ap, sym, ◌∙◌, true≢false, arith}
use Rattle.std.specs.List.{list_any}
use Rattle.std.specs.Str.{byte, bytes_eq}
use Rattle.plan_texts.specs.Text.{begins_with}
use Rattle.plan_shell.specs.declared.step.Property.{Property}
use Rattle.plan_shell.specs.declared.step.Property.TheVariants as property
use Rattle.plan_tree.specs.declared.links.End.{End}
use Rattle.plan_tree.specs.declared.links.End.TheVariants as end
use Rattle.plan_tree.specs.declared.tree.Node.{Node}
use Rattle.plan_tree.specs.declared.tree.Node.TheVariants as node
use Rattle.plan_tree.specs.declared.tree.Status.{Status}
use Rattle.plan_tree.proofs.LeadsLemmas.{end_of_is_end}
use Rattle.plan_tree.specs.Leads.{IsEnd, Leads, arrives, goes_in, goes_past, stops}
use Rattle.plan_tree.specs.Links.{after_step, beyond_link, end_of, is_here, is_null, is_up, leads_to, most_links, step_by, step_of}
use Rattle.plan_tree.specs.Place.{child, names_of}
use Rattle.plan_tree.specs.Tree.{Held}
use Rattle.plan_idle.specs.declared.answer.Answer.{Answer}
use Rattle.plan_idle.specs.declared.answer.Answer.TheVariants.{Yes, No, Unknown, Acts}
use Rattle.plan_idle.specs.Answers.{Asker, and_answer, answer_among, answer_at, answer_in, answer_of, booted_answer, booted_path, command_by, directory_answer, directory_scripts, dirs_of, end_answer, executable_answer, exists_answer, file_answer, full_answer, is_no, is_script_name, listed_answer, may_run, mode_answer, no_scripts_answer, no_scripts_in, node_answer, only_usr, or_answer, path_answer, path_in, program_answer, word_answer}
use Rattle.plan_idle.specs.Known.{Places, execute_status, is_known, is_open, is_readable, is_roots, is_within, known_at, known_in, known_node, owners_count, places_of, seen_by}
use Rattle.plan_idle.specs.Law.{AgreesFor, IdleRunsNothing, IsSame, found_at}
use Rattle.plan_idle.proofs.RunLemmas.{fits, idle_runs_none, may_find, self_found}

-- ---- where paths lead

-- a place can't be read in one tree, or has the same in another
abbrev IsHidden : (known other : List ℕ → Node) → List ℕ → Type 0
IsHidden known other place = (known place ≡ node.Unreadable) ⊎ (other place ≡ known place)

choose :
    {S : Type 0} (null here up : Bool) (a b c k o u : S) → (k ≡ u) ⊎ (o ≡ k) →
    (cond null a (cond here b (cond up c k)) ≡ u) ⊎ (cond null a (cond here b (cond up c o)) ≡ cond null a (cond here b (cond up c k)))
choose true here up a b c k o u is = inr refl
choose false true up a b c k o u is = inr refl
choose false false true a b c k o u is = inr refl
choose false false false a b c k o u is = is

by_node : {S : Type 0} (by : Node → S) (n n2 : Node) → (n ≡ node.Unreadable) ⊎ (n2 ≡ n) →
    (by n ≡ by node.Unreadable) ⊎ (by n2 ≡ by n)
by_node by n n2 (inl hidden) = inl (ap by hidden)
by_node by n n2 (inr same) = inr (ap by same)

-- the steps are the same, or what comes first can't be read
step_same :
    (known other : List ℕ → Node) → ((place : List ℕ) → IsHidden known other place) → (dir name : List ℕ) (rest : List (List ℕ)) →
    (step_of known dir name rest ≡ step_by node.Unreadable dir name rest) ⊎ (step_of other dir name rest ≡ step_of known dir name rest)
step_same known other hidden dir name rest =
    choose (is_null dir (name ∷ rest)) (is_here name) (is_up name) _ _ _
    (step_by (known (child dir name)) dir name rest) (step_by (other (child dir name)) dir name rest) (step_by node.Unreadable dir name rest)
    (by_node (λ n. step_by n dir name rest) (known (child dir name)) (other (child dir name)) (hidden (child dir name)))

past_link :
    (other : List ℕ → Node) (most : ℕ) (from : List ℕ) (names : List (List ℕ)) →
    beyond_link other (suc most) from names ≡ leads_to other most from names
unfolding beyond_link
past_link other most from names = refl

-- where names lead by the rules in one tree, they lead in the other
led :
    (known other : List ℕ → Node) → ((place : List ℕ) → IsHidden known other place) →
    (most : ℕ) (dir : List ℕ) (names : List (List ℕ)) (links : ℕ) (e : End) →
    Leads known dir names links e → e ≢ end.Unknown → links ≤ most → leads_to other most dir names ≡ e
led known other hidden most d names links e (arrives dir) is few = refl
led known other hidden most d names links e (goes_in dir name rest inside l f was more) is few =
    elim (step_same known other hidden dir name rest) as (λ _. leads_to other most dir (name ∷ rest) ≡ f) [
      | inl none ↦ absurd (let same = sym was ∙ none in cc)
      | inr same ↦ ap (after_step (λ inside. leads_to other most inside rest) (λ from text. beyond_link other most from (names_of text ++ rest)))
          (same ∙ was) ∙ led known other hidden most inside rest l f more is few
    ]
led known other hidden most d names links e (stops dir name rest f was) is few =
    elim (step_same known other hidden dir name rest) as (λ _. leads_to other most dir (name ∷ rest) ≡ f) [
      | inl none ↦ absurd (is (let same = sym was ∙ none in cc))
      | inr same ↦ ap (after_step (λ inside. leads_to other most inside rest) (λ from text. beyond_link other most from (names_of text ++ rest)))
          (same ∙ was)
    ]
led known other hidden zero d names links e (goes_past dir name rest from text l f was more) is few = absurd (omega arith)
led known other hidden (suc most) d names links e (goes_past dir name rest from text l f was more) is few =
    elim (step_same known other hidden dir name rest) as (λ _. leads_to other (suc most) dir (name ∷ rest) ≡ f) [
      | inl none ↦ absurd (let same = sym was ∙ none in cc)
      | inr same ↦ ap (after_step (λ inside. leads_to other (suc most) inside rest)
          (λ from text. beyond_link other (suc most) from (names_of text ++ rest))) (same ∙ was)
          ∙ past_link other most from (names_of text ++ rest)
          ∙ led known other hidden most from (names_of text ++ rest) l f more is (omega arith)
    ]

-- an end is unknown, or the same
abbrev IsSameEnd : (known other : End) → Type 0
IsSameEnd known other = (known ≡ end.Unknown) ⊎ (other ≡ known)

end_or : (e : End) → (e ≡ end.Unknown) ⊎ (e ≢ end.Unknown)
end_or (end.Found place) = inr (λ is. cc)
end_or end.Nothing = inr (λ is. cc)
end_or end.Unknown = inl refl

leads_by :
    (known other : List ℕ → Node) → ((place : List ℕ) → IsHidden known other place) → (path : List ℕ) (e : End) →
    (e ≡ end.Unknown) ⊎ (e ≢ end.Unknown) → IsEnd known path e → IsSameEnd e (end_of other path)
leads_by known other hidden path e (inl none) is = inl none
leads_by known other hidden path e (inr some) (inl rules) =
    inr (led known other hidden most_links [] (names_of path) rules.0 e rules.2 some rules.1)
leads_by known other hidden path e (inr some) (inr over) = absurd (some over.0)

-- a path leads to the same, or where it leads is unknown
leads_same :
    (known other : List ℕ → Node) → ((place : List ℕ) → IsHidden known other place) → (path : List ℕ) →
    IsSameEnd (end_of known path) (end_of other path)
leads_same known other hidden path =
    leads_by known other hidden path (end_of known path) (end_or (end_of known path)) (end_of_is_end known path)

-- ---- a known place

both_or : (b : Bool) (x : Node) → (cond b x node.Unreadable ≡ node.Unreadable) ⊎ (cond b x node.Unreadable ≡ x)
both_or true x = inr refl
both_or false x = inl refl

known_or : (places : Places) (is_root : Bool) (n : Node) (status : Option Status) →
    (known_node places is_root n status ≡ node.Unreadable) ⊎ (known_node places is_root n status ≡ n)
known_or places is_root node.Missing status = inr refl
known_or places is_root node.Unreadable status = inr refl
known_or places is_root (node.Link text) status = inr refl
known_or places is_root node.Directory status =
    both_or (is_roots (owners_count places.root) status && is_open is_root status) node.Directory
known_or places is_root (node.File is_empty) status = both_or (is_roots (owners_count places.root) status) (node.File is_empty)
known_or places is_root node.Null status = both_or (is_roots (owners_count places.root) status) node.Null
known_or places is_root node.Other status = both_or (is_roots (owners_count places.root) status) node.Other

at_or : (is : Bool) (places : Places) (is_root : Bool) (n : Node) (status : Option Status) →
    (cond is (known_node places is_root n status) node.Unreadable ≡ node.Unreadable)
    ⊎ (cond is (known_node places is_root n status) node.Unreadable ≡ n)
at_or true places is_root n status = known_or places is_root n status
at_or false places is_root n status = inl refl

-- whether a node can't be read is decided
readable_or : (n : Node) → (n ≡ node.Unreadable) ⊎ (n ≢ node.Unreadable)
readable_or node.Missing = inr (λ is. cc)
readable_or node.Unreadable = inl refl
readable_or (node.Link text) = inr (λ is. cc)
readable_or node.Directory = inr (λ is. cc)
readable_or (node.File is_empty) = inr (λ is. cc)
readable_or node.Null = inr (λ is. cc)
readable_or node.Other = inr (λ is. cc)

-- what is known in usr alone is known
narrow :
    (x y z u : Bool) (n : Node) →
    (cond (x && (y && (z && u))) n node.Unreadable ≡ node.Unreadable)
    ⊎ (cond (x && (y && (z && u))) n node.Unreadable ≡ cond (x && (y && (z && true))) n node.Unreadable)
narrow true true true true n = inr refl
narrow true true true false n = inl refl
narrow true true false u n = inl refl
narrow true false z u n = inl refl
narrow false y z u n = inl refl

-- a place can't be read in the tree of what is known, or another tree has the same there
abbrev IsKnownPlace : (is_root only_usr : Bool) → (held other : Held) → List ℕ → Type 0
IsKnownPlace is_root only_usr held other place =
    (known_at (places_of held) is_root only_usr held place ≡ node.Unreadable)
    ⊎ ((other.node place ≡ known_at (places_of held) is_root only_usr held place) × IsSame held other place)

known_by :
    (is_root only_usr : Bool) (held other : Held) (place : List ℕ) → AgreesFor is_root held other →
    let wide = known_at (places_of held) is_root false held place in
    known_at (places_of held) is_root only_usr held place ≡ wide →
    (wide ≡ node.Unreadable) ⊎ (wide ≢ node.Unreadable) → (wide ≡ node.Unreadable) ⊎ (wide ≡ held.node place) →
    IsKnownPlace is_root only_usr held other place
known_by is_root only_usr held other place agrees is (inl hidden) either = inl (is ∙ hidden)
known_by is_root only_usr held other place agrees is (inr readable) (inl hidden) = absurd (readable hidden)
known_by is_root only_usr held other place agrees is (inr readable) (inr held_there) =
    let same = agrees.same place readable in
    inr (same.node ∙ sym held_there ∙ sym is, same)

known_from :
    (is_root only_usr : Bool) (held other : Held) (place : List ℕ) → AgreesFor is_root held other →
    let wide = known_at (places_of held) is_root false held place in
    (known_at (places_of held) is_root only_usr held place ≡ node.Unreadable)
    ⊎ (known_at (places_of held) is_root only_usr held place ≡ wide) →
    IsKnownPlace is_root only_usr held other place
known_from is_root only_usr held other place agrees (inl hidden) = inl hidden
known_from is_root only_usr held other place agrees (inr is) =
    known_by is_root only_usr held other place agrees is (readable_or (known_at (places_of held) is_root false held place))
    (at_or (is_known (places_of held) is_root false place) (places_of held) is_root (held.node place) (held.status place))

known_place :
    (is_root only_usr : Bool) (held other : Held) → AgreesFor is_root held other → (place : List ℕ) →
    IsKnownPlace is_root only_usr held other place
known_place is_root only_usr held other agrees place =
    let places = places_of held in
    known_from is_root only_usr held other place agrees
    (narrow (is_roots (owners_count places.root) places.root && is_open is_root places.root) (list_any (is_within place) places.tops)
    (not (list_any (is_within place) places.mounts)) (not only_usr || is_within place (codes "usr"))
    (known_node places is_root (held.node place) (held.status place)))

hidden_at :
    (is_root only_usr : Bool) (held other : Held) (place : List ℕ) → IsKnownPlace is_root only_usr held other place →
    IsHidden (known_at (places_of held) is_root only_usr held) other.node place
hidden_at is_root only_usr held other place (inl hidden) = inl hidden
hidden_at is_root only_usr held other place (inr known) = inr known.0

ends_same :
    (is_root only_usr : Bool) (held other : Held) → AgreesFor is_root held other → (path : List ℕ) →
    IsSameEnd (end_of (known_at (places_of held) is_root only_usr held) path) (end_of other.node path)
ends_same is_root only_usr held other agrees path =
    leads_same (known_at (places_of held) is_root only_usr held) other.node
    (λ place. hidden_at is_root only_usr held other place (known_place is_root only_usr held other agrees place)) path

-- ---- answers for paths

abbrev acts : Answer → Bool
acts Acts = true
acts other = false

-- a property of what is at the end of a path
abbrev is_of_paths : Property → Bool
is_of_paths property.Command = false
is_of_paths property.NoScripts = false
is_of_paths other = true

unknown_fits : (a : Answer) → acts a ≡ false → fits Unknown a ≡ true
unknown_fits Yes never = refl
unknown_fits No never = refl
unknown_fits Unknown never = refl
unknown_fits Acts never = absurd (true≢false never)

self_fits : (a : Answer) → acts a ≡ false → fits a a ≡ true
self_fits Yes never = refl
self_fits No never = refl
self_fits Unknown never = refl
self_fits Acts never = absurd (true≢false never)

answer_never : (b : Bool) → acts (answer_of b) ≡ false
answer_never true = refl
answer_never false = refl

mode_never : (status : Option Status) → acts (mode_answer status) ≡ false
mode_never None = refl
mode_never (Some status) = answer_never (not (bit_and status.mode 73 == 0))

exists_never : (n : Node) → acts (exists_answer n) ≡ false
exists_never node.Missing = refl
exists_never node.Unreadable = refl
exists_never n = refl

file_never : (n : Node) → acts (file_answer n) ≡ false
file_never (node.File is_empty) = refl
file_never node.Unreadable = refl
file_never n = refl

directory_never : (n : Node) → acts (directory_answer n) ≡ false
directory_never node.Directory = refl
directory_never node.Unreadable = refl
directory_never n = refl

full_never : (n : Node) → acts (full_answer n) ≡ false
full_never (node.File is_empty) = answer_never (not is_empty)
full_never node.Directory = refl
full_never node.Unreadable = refl
full_never node.Other = refl
full_never n = refl

executable_never : (n : Node) (status : Option Status) → acts (executable_answer n status) ≡ false
executable_never (node.File is_empty) status = mode_never status
executable_never node.Directory status = refl
executable_never node.Unreadable status = refl
executable_never n status = refl

node_never : (p : Property) (n : Node) (status : Option Status) → is_of_paths p ≡ true → acts (node_answer p n status) ≡ false
node_never property.Exists n status is = exists_never n
node_never property.File n status is = file_never n
node_never property.Directory n status is = directory_never n
node_never property.NotEmpty n status is = full_never n
node_never property.Executable n status is = executable_never n status
node_never property.Command n status is = refl
node_never property.NoScripts n status is = absurd (true≢false (sym is))

cond_never : (b : Bool) (a : Answer) → acts a ≡ false → acts (cond b Unknown a) ≡ false
cond_never true a never = refl
cond_never false a never = never

end_never : (held : Held) (p : Property) (e : End) → is_of_paths p ≡ true → acts (end_answer held p e) ≡ false
end_never held p (end.Found place) is =
    cond_never (length place == 0) (node_answer p (held.node place) (held.status place)) (node_never p (held.node place) (held.status place) is)
end_never held p end.Nothing is = refl
end_never held p end.Unknown is = refl

unreadable_fits :
    (p : Property) (status : Option Status) (n : Node) (status2 : Option Status) → is_of_paths p ≡ true →
    fits (node_answer p node.Unreadable status) (node_answer p n status2) ≡ true
unreadable_fits property.Exists status n status2 is = unknown_fits (exists_answer n) (exists_never n)
unreadable_fits property.File status n status2 is = unknown_fits (file_answer n) (file_never n)
unreadable_fits property.Directory status n status2 is = unknown_fits (directory_answer n) (directory_never n)
unreadable_fits property.NotEmpty status n status2 is = unknown_fits (full_answer n) (full_never n)
unreadable_fits property.Executable status n status2 is = unknown_fits (executable_answer n status2) (executable_never n status2)
unreadable_fits property.Command status n status2 is = refl
unreadable_fits property.NoScripts status n status2 is = absurd (true≢false (sym is))

-- a node can't be read in one tree, or it and its status are the same in another
abbrev IsSameNode : (n n2 : Node) (status status2 : Option Status) → Type 0
IsSameNode n n2 status status2 = (n ≡ node.Unreadable) ⊎ ((n2 ≡ n) × (status2 ≡ status))

node_fits :
    (root : Bool) (p : Property) (n n2 : Node) (status status2 : Option Status) → is_of_paths p ≡ true → IsSameNode n n2 status status2 →
    fits (cond root Unknown (node_answer p n status)) (cond root Unknown (node_answer p n2 status2)) ≡ true
node_fits true p n n2 status status2 is same = refl
node_fits false p n n2 status status2 is (inl hidden) =
    ap (λ n. fits (node_answer p n status) (node_answer p n2 status2)) hidden ∙ unreadable_fits p status n2 status2 is
node_fits false p n n2 status status2 is (inr same) =
    ap (λ n2. fits (node_answer p n status) (node_answer p n2 status2)) same.0
    ∙ ap (λ status2. fits (node_answer p n status) (node_answer p n status2)) same.1
    ∙ self_fits (node_answer p n status) (node_never p n status is)

end_fits :
    (known other : Held) (p : Property) (e : End) → is_of_paths p ≡ true →
    ((place : List ℕ) → IsSameNode (known.node place) (other.node place) (known.status place) (other.status place)) →
    fits (end_answer known p e) (end_answer other p e) ≡ true
end_fits known other p (end.Found place) is same =
    node_fits (length place == 0) p (known.node place) (other.node place) (known.status place) (other.status place) is (same place)
end_fits known other p end.Nothing is same = refl
end_fits known other p end.Unknown is same = refl

ends_fit :
    (known other : Held) (p : Property) (e e2 : End) → is_of_paths p ≡ true → IsSameEnd e e2 →
    ((place : List ℕ) → IsSameNode (known.node place) (other.node place) (known.status place) (other.status place)) →
    fits (end_answer known p e) (end_answer other p e2) ≡ true
ends_fit known other p e e2 is (inl none) same =
    ap (λ e. fits (end_answer known p e) (end_answer other p e2)) none
    ∙ unknown_fits (end_answer other p e2) (end_never other p e2 is)
ends_fit known other p e e2 is (inr ends) same =
    ap (λ e2. fits (end_answer known p e) (end_answer other p e2)) ends ∙ end_fits known other p e is same

same_node :
    (is_root only_usr : Bool) (held other : Held) (place : List ℕ) → IsKnownPlace is_root only_usr held other place →
    IsSameNode (known_at (places_of held) is_root only_usr held place) (other.node place)
    (execute_status is_root (held.status place)) (execute_status is_root (other.status place))
same_node is_root only_usr held other place (inl hidden) = inl hidden
same_node is_root only_usr held other place (inr known) = inr (known.0, ap (execute_status is_root) known.1.status)

path_fits :
    (is_root only_usr : Bool) (held other : Held) → AgreesFor is_root held other → (p : Property) (path : List ℕ) → is_of_paths p ≡ true →
    fits (path_answer (known_in (places_of held) is_root only_usr held) p path) (path_answer (seen_by is_root other) p path) ≡ true
path_fits is_root only_usr held other agrees p path is =
    ends_fit (known_in (places_of held) is_root only_usr held) (seen_by is_root other) p
    (end_of (known_at (places_of held) is_root only_usr held) path) (end_of other.node path) is
    (ends_same is_root only_usr held other agrees path)
    (λ place. same_node is_root only_usr held other place (known_place is_root only_usr held other agrees place))

-- ---- answers for commands

as_unknown : (a b : Answer) → fits a b ≡ true → fits Unknown b ≡ true
as_unknown a Yes is = refl
as_unknown a No is = refl
as_unknown a Unknown is = refl
as_unknown Yes Acts is = is
as_unknown No Acts is = is
as_unknown Unknown Acts is = is
as_unknown Acts Acts is = is

and_fits :
    (a b a2 b2 : Answer) → fits a a2 ≡ true → fits b b2 ≡ true → fits (and_answer a b) (and_answer a2 b2) ≡ true
and_fits Yes b Yes b2 is then_is = then_is
and_fits No b No b2 is then_is = refl
and_fits Unknown b Yes b2 is then_is = as_unknown b b2 then_is
and_fits Unknown b No b2 is then_is = refl
and_fits Unknown b Unknown b2 is then_is = refl
and_fits a b a2 b2 is then_is = absurd (true≢false (sym is))

or_unknown :
    (b a2 b2 : Answer) → fits Unknown a2 ≡ true → fits b b2 ≡ true → fits (or_answer Unknown b) (or_answer a2 b2) ≡ true
or_unknown Yes Yes Yes is then_is = refl
or_unknown Yes No Yes is then_is = refl
or_unknown Yes Unknown Yes is then_is = refl
or_unknown No Yes No is then_is = refl
or_unknown No No No is then_is = refl
or_unknown No Unknown No is then_is = refl
or_unknown Unknown Yes b2 is then_is = refl
or_unknown Unknown No b2 is then_is = then_is
or_unknown Unknown Unknown Yes is then_is = refl
or_unknown Unknown Unknown No is then_is = refl
or_unknown Unknown Unknown Unknown is then_is = refl
or_unknown Unknown Unknown Acts is then_is = absurd (true≢false (sym then_is))
or_unknown b Acts b2 is then_is = absurd (true≢false (sym is))
or_unknown b a2 b2 is then_is = absurd (true≢false (sym then_is))

or_fits :
    (a b a2 b2 : Answer) → fits a a2 ≡ true → fits b b2 ≡ true → fits (or_answer a b) (or_answer a2 b2) ≡ true
or_fits No b No b2 is then_is = then_is
or_fits Yes b Yes b2 is then_is = refl
or_fits Unknown b a2 b2 is then_is = or_unknown b a2 b2 is then_is
or_fits a b a2 b2 is then_is = absurd (true≢false (sym is))

program_fits :
    (is_root : Bool) (held other : Held) → AgreesFor is_root held other → (path : List ℕ) →
    fits (program_answer (known_in (places_of held) is_root false held) path) (program_answer (seen_by is_root other) path) ≡ true
program_fits is_root held other agrees path =
    let known = known_in (places_of held) is_root false held in
    let seen = seen_by is_root other in
    and_fits (path_answer known property.File path) (path_answer known property.Executable path)
    (path_answer seen property.File path) (path_answer seen property.Executable path)
    (path_fits is_root false held other agrees property.File path refl)
    (path_fits is_root false held other agrees property.Executable path refl)

in_fits :
    (b : Bool) (a a2 : Answer) → fits a a2 ≡ true → fits (cond b a Unknown) (cond b a2 Unknown) ≡ true
in_fits true a a2 is = is
in_fits false a a2 is = refl

among_fits :
    (is_root : Bool) (held other : Held) → AgreesFor is_root held other → (name : List ℕ) (found found2 : Answer) → fits found found2 ≡ true →
    (dirs : List (List ℕ)) →
    fits (answer_among (known_in (places_of held) is_root false held) name found dirs) (answer_among (seen_by is_root other) name found2 dirs)
    ≡ true
among_fits is_root held other agrees name found found2 is [] = is
among_fits is_root held other agrees name found found2 is (dir ∷ dirs) =
    let known = known_in (places_of held) is_root false held in
    let seen = seen_by is_root other in
    among_fits is_root held other agrees name (or_answer found (answer_in known name dir)) (or_answer found2 (answer_in seen name dir))
    (or_fits found (answer_in known name dir) found2 (answer_in seen name dir) is
    (in_fits (begins_with (λ b. b == byte "/") dir) (program_answer known (path_in name dir)) (program_answer seen (path_in name dir))
    (program_fits is_root held other agrees (path_in name dir))))
    dirs

from_fits : (a b : Answer) → fits a b ≡ true → may_find a b ≡ true
from_fits Yes b is = is
from_fits No b is = is
from_fits Unknown b is = is
from_fits Acts b is = refl

command_found :
    (is_root : Bool) (held other : Held) → AgreesFor is_root held other → (name path : List ℕ) (word : Answer) →
    may_find (command_by (known_in (places_of held) is_root false held) name path word) (command_by (seen_by is_root other) name path word)
    ≡ true
command_found is_root held other agrees name path No =
    from_fits (answer_among (known_in (places_of held) is_root false held) name No (dirs_of path))
    (answer_among (seen_by is_root other) name No (dirs_of path))
    (among_fits is_root held other agrees name No No refl (dirs_of path))
command_found is_root held other agrees name path Yes = refl
command_found is_root held other agrees name path Unknown = refl
command_found is_root held other agrees name path Acts = refl

-- ---- answers for scripts

run_less :
    (b : Bool) (a a2 : Answer) → fits a a2 ≡ true → (b && not (is_no a)) ≡ false → (b && not (is_no a2)) ≡ false
run_less false a a2 is never = refl
run_less true No No is never = refl
run_less true No Yes is never = absurd (true≢false (sym is))
run_less true No Unknown is never = absurd (true≢false (sym is))
run_less true No Acts is never = absurd (true≢false (sym is))
run_less true Yes a2 is never = absurd (true≢false never)
run_less true Unknown a2 is never = absurd (true≢false never)
run_less true Acts a2 is never = absurd (true≢false never)

one_found :
    (k s : Bool) (rest rest2 : Answer) → (k ≡ false → s ≡ false) → may_find rest rest2 ≡ true →
    may_find (cond k Acts rest) (cond s Acts rest2) ≡ true
one_found true s rest rest2 less more = refl
one_found false true rest rest2 less more = absurd (true≢false (less refl))
one_found false false rest rest2 less more = more

names_found :
    (is_root : Bool) (held other : Held) → AgreesFor is_root held other → (dir : List ℕ) (names : List (List ℕ)) →
    may_find (no_scripts_in (known_in (places_of held) is_root false held) dir names) (no_scripts_in (seen_by is_root other) dir names) ≡ true
names_found is_root held other agrees dir [] = refl
names_found is_root held other agrees dir (name ∷ names) =
    let known = known_in (places_of held) is_root false held in
    let seen = seen_by is_root other in
    one_found (may_run known dir name) (may_run seen dir name) (no_scripts_in known dir names) (no_scripts_in seen dir names)
    (run_less (is_script_name name) (program_answer known (child dir name)) (program_answer seen (child dir name))
    (program_fits is_root held other agrees (child dir name)))
    (names_found is_root held other agrees dir names)

whole_found : (whole : Bool) (a a2 : Answer) → may_find a a2 ≡ true → may_find (cond whole a Acts) (cond whole a2 Acts) ≡ true
whole_found true a a2 is = is
whole_found false a a2 is = refl

listed_found :
    (is_root : Bool) (held other : Held) → AgreesFor is_root held other → (dir : List ℕ) (names : Option (List (List ℕ) × Bool)) →
    may_find (listed_answer (known_in (places_of held) is_root false held) dir names) (listed_answer (seen_by is_root other) dir names) ≡ true
listed_found is_root held other agrees dir None = refl
listed_found is_root held other agrees dir (Some listing) =
    whole_found listing.1 (no_scripts_in (known_in (places_of held) is_root false held) dir listing.0)
    (no_scripts_in (seen_by is_root other) dir listing.0) (names_found is_root held other agrees dir listing.0)

-- a directory that is known has the same names
names_same :
    (is_root : Bool) (held other : Held) (dir : List ℕ) → IsSame held other dir → (seen_by is_root other).names dir ≡ (seen_by is_root held).names dir
names_same is_root held other dir same =
    ap (λ status. cond (is_readable is_root status) (other.names dir) None) same.status
    ∙ ap (λ (names : Option (List (List ℕ) × Bool)). cond (is_readable is_root (held.status dir)) names None) same.names

directory_found :
    (is_root : Bool) (held other : Held) → AgreesFor is_root held other → (dir : List ℕ) (n : Node) →
    (seen_by is_root other).names dir ≡ (seen_by is_root held).names dir →
    may_find (directory_scripts (known_in (places_of held) is_root false held) dir n) (directory_scripts (seen_by is_root other) dir n) ≡ true
directory_found is_root held other agrees dir node.Directory same =
    let known = known_in (places_of held) is_root false held in
    let seen = seen_by is_root other in
    ap (λ (names : Option (List (List ℕ) × Bool)). may_find (listed_answer known dir ((seen_by is_root held).names dir)) (listed_answer seen dir names)) same
    ∙ listed_found is_root held other agrees dir ((seen_by is_root held).names dir)
directory_found is_root held other agrees dir n same = refl

at_directory :
    (is_root : Bool) (held other : Held) → AgreesFor is_root held other → (dir : List ℕ) → IsKnownPlace is_root false held other dir →
    may_find (directory_scripts (known_in (places_of held) is_root false held) dir (known_at (places_of held) is_root false held dir))
    (directory_scripts (seen_by is_root other) dir (other.node dir)) ≡ true
at_directory is_root held other agrees dir (inl hidden) =
    ap (λ n. may_find (directory_scripts (known_in (places_of held) is_root false held) dir n)
    (directory_scripts (seen_by is_root other) dir (other.node dir))) hidden
at_directory is_root held other agrees dir (inr known) =
    ap (λ n. may_find (directory_scripts (known_in (places_of held) is_root false held) dir (known_at (places_of held) is_root false held dir))
    (directory_scripts (seen_by is_root other) dir n)) known.0
    ∙ directory_found is_root held other agrees dir (known_at (places_of held) is_root false held dir)
    (names_same is_root held other dir known.1)

scripts_found :
    (is_root : Bool) (held other : Held) → AgreesFor is_root held other → (e : End) →
    may_find (no_scripts_answer (known_in (places_of held) is_root false held) e) (no_scripts_answer (seen_by is_root other) e) ≡ true
scripts_found is_root held other agrees (end.Found dir) =
    at_directory is_root held other agrees dir (known_place is_root false held other agrees dir)
scripts_found is_root held other agrees end.Nothing = refl
scripts_found is_root held other agrees end.Unknown = refl

no_scripts_found :
    (is_root : Bool) (held other : Held) → AgreesFor is_root held other → (e e2 : End) → IsSameEnd e e2 →
    may_find (no_scripts_answer (known_in (places_of held) is_root false held) e) (no_scripts_answer (seen_by is_root other) e2) ≡ true
no_scripts_found is_root held other agrees e e2 (inl none) =
    ap (λ e. may_find (no_scripts_answer (known_in (places_of held) is_root false held) e) (no_scripts_answer (seen_by is_root other) e2)) none
no_scripts_found is_root held other agrees e e2 (inr same) =
    ap (λ e2. may_find (no_scripts_answer (known_in (places_of held) is_root false held) e) (no_scripts_answer (seen_by is_root other) e2)) same
    ∙ scripts_found is_root held other agrees e

-- ---- all answers

booted_or :
    (b : Bool) (booted booted2 a a2 : Answer) → booted2 ≡ booted → fits a a2 ≡ true → may_find (cond b booted a) (cond b booted2 a2) ≡ true
booted_or true booted booted2 a a2 same is = ap (may_find booted) same ∙ self_found booted
booted_or false booted booted2 a a2 same is = from_fits a a2 is

path_found :
    (held other : Held) (asker : Asker) → AgreesFor asker.is_root held other → (p : Property) (path : List ℕ) → is_of_paths p ≡ true →
    may_find (cond (bytes_eq path booted_path) (booted_answer held p)
    (path_answer (known_in (places_of held) asker.is_root (only_usr p) held) p path))
    (cond (bytes_eq path booted_path) (booted_answer other p) (path_answer (seen_by asker.is_root other) p path)) ≡ true
path_found held other asker agrees p path is =
    booted_or (bytes_eq path booted_path) (booted_answer held p) (booted_answer other p)
    (path_answer (known_in (places_of held) asker.is_root (only_usr p) held) p path) (path_answer (seen_by asker.is_root other) p path)
    (agrees.booted p) (path_fits asker.is_root (only_usr p) held other agrees p path is)

-- what a command finds in a tree that agrees is what it finds, if that is known
pub found_fits :
    (held other : Held) (asker : Asker) → AgreesFor asker.is_root held other → (p : Property) (subject : List ℕ) →
    may_find (answer_at held (places_of held) asker p subject) (found_at other asker p subject) ≡ true
found_fits held other asker agrees property.Command name =
    command_found asker.is_root held other agrees name asker.path (word_answer asker.is_bash name)
found_fits held other asker agrees property.NoScripts dir =
    no_scripts_found asker.is_root held other agrees (end_of (known_at (places_of held) asker.is_root false held) dir) (end_of other.node dir)
    (ends_same asker.is_root false held other agrees dir)
found_fits held other asker agrees property.Exists subject = path_found held other asker agrees property.Exists subject refl
found_fits held other asker agrees property.File subject = path_found held other asker agrees property.File subject refl
found_fits held other asker agrees property.Directory subject = path_found held other asker agrees property.Directory subject refl
found_fits held other asker agrees property.NotEmpty subject = path_found held other asker agrees property.NotEmpty subject refl
found_fits held other asker agrees property.Executable subject = path_found held other asker agrees property.Executable subject refl

pub idle_runs_nothing : IdleRunsNothing
idle_runs_nothing held other asker values tree agrees never =
    idle_runs_none (answer_at held (places_of held) asker) (found_at other asker) (found_fits held other asker agrees) values tree never
