-- A tree in which a listing that is whole names everything in its directory.
use Rattle.std.specs.Prelude.{◌≡◌, ◌≢◌, ℕ, ◌<◌, Bool, true, false, not, List, ◌∷◌, length, get_or, codes, Some}
use Rattle.std.specs.List.{list_any}
use Rattle.std.specs.Str.{byte, bytes_eq}
use Rattle.std.proofs.Common.{append_assoc, subst, sym}
use Rattle.plan_tree.specs.declared.tree.Node.TheVariants.{Missing, Unreadable}
use Rattle.plan_tree.specs.declared.tree.Node.{Node}
use Rattle.plan_tree.specs.Links.{is_here, is_up}
use Rattle.plan_tree.specs.Tree.{Held, below, path_below}

-- no byte is a slash
abbrev pub LacksSlash : List ℕ → Type 0
LacksSlash text = (i : ℕ) → i < length text → get_or text i 0 ≢ byte "/"

-- an ordinary name: it has no slash, and neither stays in the directory nor leads to its parent
abbrev pub IsName : List ℕ → Type 0
IsName name = LacksSlash name × (is_here name ≡ false) × (is_up name ≡ false)

abbrev pub is_unreadable : Node → Bool
is_unreadable Unreadable = true
is_unreadable _ = false

-- a directory can be searched: what is there in it by the name `.` can be determined (path_resolution(7))
abbrev pub is_searchable : Held → List ℕ → Bool
is_searchable held dir = not (is_unreadable (held.node (path_below dir (codes "."))))

-- of a directory that can be searched, a listing that is whole names everything but what is missing (readdir(3))
abbrev pub IsComplete : Held → Type 0
IsComplete held =
    (dir : List ℕ) (names : List (List ℕ)) (name : List ℕ) → held.names dir ≡ Some (names, true) → is_searchable held dir ≡ true →
    IsName name → list_any (bytes_eq name) names ≡ false → held.node (path_below dir name) ≡ Missing

-- the tree below a directory is as complete as the whole one
pub below_complete : (root : List ℕ) (held : Held) → IsComplete held → IsComplete (below root held)
below_complete root held complete = λ dir names name whole searchable ordinary absent.
    let inside : (last : List ℕ) → path_below (path_below root dir) last ≡ path_below root (path_below dir last) =
    λ last. append_assoc root (byte "/" ∷ dir) (byte "/" ∷ last) in
    subst (λ path. held.node path ≡ Missing) (inside name)
    (complete (path_below root dir) names name whole
    (subst (λ path. not (is_unreadable (held.node path)) ≡ true) (sym (inside (codes "."))) searchable) ordinary absent)
