use Rattle.std.proofs.Common.{◌≡◌, ◌++◌, drop, false}
use Rattle.plan_parts.specs.Specifiers.{replaced}
use Rattle.plan_users.specs.UserTree.{user_text}
use Rattle.plan_users.proofs.user_tree.expanded_for.Given as goal

-- what is read, and what is left as it will be read, is the whole text as it is read
abbrev pub invariant-loop-byte : goal.invariant-loop-byte
invariant-loop-byte l =
    l.read.items ++ replaced (user_text l.manager) l.marked (drop l.byte-index l.text) ≡ replaced (user_text l.manager) false l.text
