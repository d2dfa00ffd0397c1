-- Steps from what is found for one user to what is found for all.
use Rattle.std.proofs.Common.{◌≡◌, ℕ, ◌+◌, ◌<◌, List, [], ◌∷◌, length, drop, get_or, refl, ap, sym, ◌∙◌, subst}
use Rattle.std.proofs.lemmas.List.{drop_more}
use Rattle.std.specs.Prelude.{IfNone, Option, None, Some}
use Rattle.plan_tree.specs.Tree.{Held}
use Rattle.plan_users.specs.declared.managers.Manager.{Manager}
use Rattle.plan_users.specs.Found.{FoundUsers, joined}
use Rattle.plan_users.specs.Timers.{AreFoundAfter, IsFoundFor}

-- what is found for the users who are left, after one more user
pub found_more :
    (held : Held) (most : ℕ) (managers : List Manager) (i : ℕ) (manager d : Manager) (before own after all : FoundUsers) →
    i < length managers → manager ≡ get_or managers i d → IsFoundFor held most manager own → after ≡ joined before own →
    AreFoundAfter held most (drop (i + 1) managers) after all → AreFoundAfter held most (drop i managers) before all
found_more held most managers i manager d before own after all lt here found is more =
    let left : drop i managers ≡ manager ∷ drop (i + 1) managers =
    drop_more managers i d lt ∙ ap (λ first. first ∷ drop (i + 1) managers) (sym here) in
    subst (λ left. AreFoundAfter held most left before all) (sym left)
    (own, found, subst (λ now. AreFoundAfter held most (drop (i + 1) managers) now all) is more)

-- no user is left
pub found_all :
    (held : Held) (most : ℕ) (managers : List Manager) (found : FoundUsers) → managers ≡ [] →
    AreFoundAfter held most managers found found
found_all held most managers found none = subst (λ left. AreFoundAfter held most left found found) (sym none) refl

-- what holds where there is no value, from what holds there
pub none_more : {X : Type 0} (A B : Type 0) → (A → B) → (found : Option X) → IfNone found A → IfNone found B
none_more A B more None holds = more holds
none_more A B more (Some x) holds = holds
