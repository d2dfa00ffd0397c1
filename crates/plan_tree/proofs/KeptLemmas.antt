-- What is kept of a tree stays so.
use Rattle.std.proofs.Common.{◌≡◌, ℕ, Bool, true, false, List, [], ◌∷◌, ◌++◌, Option, None, Some, MatchOption, IfSome, Bor, ◌+◌, take, drop, take-append-drop, lit<, arith, cond, is_some, length, ◌<◌, refl, ap, sym, ◌∙◌, subst, inl, inr, ◌⊎◌}
use Rattle.std.proofs.lemmas.Bool.{or_cases}
use Rattle.std.proofs.lemmas.List.{drop_more}
use Rattle.std.proofs.lemmas.List.Folds.{list_any-append}
use Rattle.std.proofs.lemmas.Slice.Eq.{bytes_eq-Decides}
use Rattle.std.proofs.lemmas.Str.{len_utf8_ascii}
use Rattle.std.proofs.lemmas.Str.Pattern.{NoCharPasses-char}
use Rattle.std.specs.Str.Pattern.{RFindsChar, SplitsAroundMatch}
use Rattle.std.specs.Map.{update}
use Rattle.std.specs.Str.{bytes_eq}
use Rattle.plan_tree.specs.declared.kept.Kept.{Kept}
use Rattle.plan_tree.specs.declared.kept.KeptDir.{KeptDir}
use Rattle.plan_tree.specs.declared.tree.Listing.{Listing}
use Rattle.plan_tree.specs.declared.tree.Node.{Node}
use Rattle.plan_tree.specs.declared.tree.Node.TheVariants.{Missing}
use Rattle.plan_tree.specs.Complete.{IsComplete, IsName, LacksSlash, is_searchable}
use Rattle.plan_tree.specs.Kept.{HasNames, IsKept, IsListing, Keeps, dir_at, has_node, node_at}
use Rattle.plan_tree.specs.Links.{is_here, is_up}
use Rattle.plan_tree.specs.Tree.{Held, path_below}
use Rattle.std.proofs.lemmas.Bool.Decides.{nat_tests}
use Rattle.std.proofs.lemmas.Grind.{common_steps}

-- a path that is split before and after its last slash
pub split_last :
    (text : List ℕ) (r : Option (Bor (List ℕ) × Bor (List ℕ))) →
    MatchOption r (RFindsChar 47 text None)
    (λ x. SplitsAroundMatch (RFindsChar 47) text x.0.now x.1.now) →
    IfSome r (λ x. (text ≡ path_below x.0.now x.1.now) × LacksSlash x.1.now)
split_last text None found = tt
split_last text (Some x) found =
    let i = found.0 in
    let j = found.1 in
    let next : j ≡ i + 1 = omega (arith, found.2.1.ends, len_utf8_ascii 47 (lit< tt)) in
    let back : x.1.now ≡ drop (i + 1) text = found.4 ∙ ap (λ n. drop n text) next in
    let inside : i < length text = omega (arith, found.7) in (
      sym (take-append-drop i text)
          ∙ ap (λ l. take i text ++ l) (drop_more text i 0 inside ∙ ap (λ b. b ∷ drop (i + 1) text) (found.2.1.byte (lit< tt)))
          ∙ ap (λ f. f ++ 47 ∷ drop (i + 1) text) (sym found.3) ∙ ap (λ b. x.0.now ++ 47 ∷ b) (sym back),
      subst LacksSlash (sym found.4) (λ k within. NoCharPasses-char 47 (drop j text) k found.2.0 (lit< tt) within),
    )

-- a path that isn't kept, in a directory that is kept as complete, is missing
pub left_out :
    (held : Held) (kept : Kept) (path dir name : List ℕ) (found : KeptDir) → IsKept held kept →
    (path ≡ path_below dir name) × LacksSlash name → dir_at kept dir ≡ Some found → found.is_complete ≡ true →
    is_here name ≡ false → is_up name ≡ false → node_at kept path ≡ None → held.node path ≡ Missing
left_out held kept path dir name found is split has complete here up none = grind (arith, nat_tests, common_steps)

-- ---- one more node

same_by :
    {X : Type 0} (path q : List ℕ) (more found : X) (old : Option X) (b : Bool) → bytes_eq path q ≡ b →
    cond b (Some more) old ≡ Some found → ((path ≡ q) × (more ≡ found)) ⊎ (old ≡ Some found)
same_by path q more found old true is has = inl ((bytes_eq-Decides path q).0 is, (cc))
same_by path q more found old false is has = inr has

none_by : (w : Node) (old : Option Node) (b : Bool) → cond b (Some w) old ≡ None → old ≡ None
none_by w old true none = absurd (cc)
none_by w old false none = none

some_by : (w : Node) (old : Option Node) (b : Bool) → is_some old ≡ true → is_some (cond b (Some w) old) ≡ true
some_by w old true some = refl
some_by w old false some = some

pub keeps_with_node :
    (held : Held) (old new : Kept) (path : List ℕ) (node : Node) → new.dirs ≡ old.dirs →
    ((q : List ℕ) → node_at new q ≡ update bytes_eq (node_at old) path (Some node) q) → node ≡ held.node path → Keeps held old new
keeps_with_node held old new path node dirs nodes is = grind (arith, nat_tests, same_by, none_by, some_by)

-- ---- one after the other

pub keeps_both : (held : Held) (first next last : Kept) → Keeps held first next → Keeps held next last → Keeps held first last
keeps_both held first next last one other = (λ is. other.0 (one.0 is), λ path some. other.1 path (one.1 path some))

-- one more name has something that is kept
pub has_one_more :
    (old new : Kept) (dir : List ℕ) (names : List (List ℕ)) (name : List ℕ) → HasNames old dir names →
    ((path : List ℕ) → has_node old path ≡ true → has_node new path ≡ true) → has_node new (path_below dir name) ≡ true →
    HasNames new dir (names ++ name ∷ [])
has_one_more old new dir names name has stays more = grind (arith, nat_tests, list_any-append, or_cases, bytes_eq-Decides)

-- ---- one more listing

absent_by : (any : Bool) (node : Option Node) → (any ≡ true → is_some node ≡ true) → node ≡ None → any ≡ false
absent_by true kept some none = let is : is_some kept ≡ true = some refl in absurd (cc)
absent_by false kept some none = refl

-- in a directory whose listing is whole, and which can be searched, what isn't kept is missing
complete_in :
    (held : Held) (kept : Kept) (dir : List ℕ) (listing : Listing) (name : List ℕ) → IsComplete held → IsListing held kept dir listing →
    listing.is_whole ≡ true → is_searchable held dir ≡ true → IsName name → node_at kept (path_below dir name) ≡ None →
    held.node (path_below dir name) ≡ Missing
complete_in held kept dir listing name complete is whole searchable ordinary none = grind (arith, nat_tests, absent_by)

pub keeps_with_listing :
    (held : Held) (old new : Kept) (path : List ℕ) (found : KeptDir) → new.nodes ≡ old.nodes →
    ((q : List ℕ) → dir_at new q ≡ update bytes_eq (dir_at old) path (Some found) q) → IsComplete held →
    IsListing held old path found.listing →
    (found.is_complete ≡ true → (found.listing.is_whole ≡ true) × (is_searchable held path ≡ true)) →
    Keeps held old new
keeps_with_listing held old new path found nodes dirs complete is whole = grind (arith, nat_tests, same_by, complete_in)
