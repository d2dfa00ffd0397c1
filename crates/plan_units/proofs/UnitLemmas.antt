-- Steps from a name to its file and to its unit.
use Rattle.std.proofs.Common.{◌≡◌, ◌≢◌, ℕ, zero, suc, ◌-◌, List, Option, Some, None, refl, ap, sym, ◌∙◌, arith}
use Rattle.plan_tree.specs.declared.tree.Node.{Node}
use Rattle.plan_tree.specs.declared.tree.Node.TheVariants.{Link}
use Rattle.plan_units.specs.declared.file.UnitFile.{UnitFile}
use Rattle.plan_units.specs.declared.paths.UnitDir.{UnitDir}
use Rattle.plan_units.specs.UnitFile.{file_by, file_by_lead, file_of_unit, lead}
use Rattle.plan_units.specs.UnitNames.{named_for}
use Rattle.plan_units.specs.Unit.{unit_by_alias, unit_by_file, unit_within}

-- a link counts by where its text leads
pub linked_file :
    (dirs : List UnitDir) (dir : UnitDir) (name text to : List ℕ) (node : Node) → node ≡ Link text → to ≡ lead dir.path text →
    file_by_lead dirs dir name to ≡ file_by node dirs dir name
linked_file dirs dir name text to node is leads = ap (file_by_lead dirs dir name) leads ∙ ap (λ n. file_by n dirs dir name) (sym is)

-- no name may be read
pub within_none :
    (node : List ℕ → Node) (dirs : List UnitDir) (names : ℕ) (name : List ℕ) → names ≡ 0 → None ≡ unit_within node dirs names name
unfolding unit_within
within_none node dirs names name none = ap (λ n. unit_within node dirs n name) (sym none)

-- the unit by the file that counts for the name
pub within_some :
    (node : List ℕ → Node) (dirs : List UnitDir) (names : ℕ) (name : List ℕ) (file : Option UnitFile) → names ≢ 0 →
    file ≡ file_of_unit node dirs name →
    unit_by_file (λ other. unit_within node dirs (names - 1) (named_for name other)) name file ≡ unit_within node dirs names name
unfolding unit_within
within_some node dirs zero name file some is = absurd (some refl)
within_some node dirs (suc n) name file some is =
    let less : suc n - 1 ≡ n = omega arith in
    ap (λ m. unit_by_file (λ other. unit_within node dirs m (named_for name other)) name file) less
    ∙ ap (unit_by_file (λ other. unit_within node dirs n (named_for name other)) name) is

-- a file that is no alias
pub within_file :
    (node : List ℕ → Node) (dirs : List UnitDir) (names : ℕ) (name : List ℕ) (file : UnitFile) → names ≢ 0 →
    Some file ≡ file_of_unit node dirs name → file.alias ≡ None →
    Some (record { name = name; file = file }) ≡ unit_within node dirs names name
within_file node dirs names name file some is none =
    ap (unit_by_alias (λ other. unit_within node dirs (names - 1) (named_for name other)) name file) (sym none)
    ∙ within_some node dirs names name (Some file) some is

-- an alias
pub within_alias :
    (node : List ℕ → Node) (dirs : List UnitDir) (names : ℕ) (name alias : List ℕ) (file : UnitFile) → names ≢ 0 →
    Some file ≡ file_of_unit node dirs name → file.alias ≡ Some alias →
    unit_within node dirs (names - 1) (named_for name alias) ≡ unit_within node dirs names name
within_alias node dirs names name alias file some is has =
    ap (unit_by_alias (λ other. unit_within node dirs (names - 1) (named_for name other)) name file) (sym has)
    ∙ within_some node dirs names name (Some file) some is
