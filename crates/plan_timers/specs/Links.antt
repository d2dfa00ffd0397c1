-- The links to units that other units want (systemd.unit(5), on `.wants/` and `.requires/`).
use Rattle.std.specs.Prelude.{ℕ, Bool, ◌||◌, nat_eq, if◌then◌else◌, List, [], ◌∷◌, ◌++◌, Option, None, Some, codes}
use Rattle.std.specs.List.{cons_option, ends_with}
use Rattle.std.specs.Str.{bytes_eq}
use Rattle.plan_timers.specs.declared.links.LinkDir.{LinkDir}
use Rattle.plan_tree.specs.declared.tree.Node.{Node}
use Rattle.plan_tree.specs.Place.{child}
use Rattle.plan_tree.specs.Tree.{Held}
use Rattle.plan_units.specs.declared.paths.UnitDir.{UnitDir}
use Rattle.plan_units.specs.Entries.{dir_in, names_at, read_dir}
use Rattle.plan_units.specs.UnitNames.{stem, template_of, wanted_name}
use Rattle.plan_units.specs.Wants.{is_counted}

-- the names of directories of links (systemd.unit(5))
abbrev pub names_links : List ℕ → Bool
names_links name = ends_with nat_eq name (codes ".wants") || ends_with nat_eq name (codes ".requires")

-- the name of the unit is that of the directory up to its last `.`
abbrev pub link_dir_by : List ℕ → Option UnitDir → Option LinkDir
link_dir_by name None = None
link_dir_by name (Some dir) = Some (record { unit = stem name; dir = dir })

-- the directory of links that has a name in a directory of units; one that is a link is read where it leads (systemd 252)
abbrev pub link_dir : (List ℕ → Node) → UnitDir → List ℕ → Option LinkDir
link_dir node dir name = if names_links name then link_dir_by name (read_dir node (dir_in dir name)) else None

-- the directories of links among the names in a directory of units
abbrev pub link_dirs_among : (List ℕ → Node) → UnitDir → List (List ℕ) → List LinkDir
link_dirs_among node dir [] = []
link_dirs_among node dir (name ∷ more) = cons_option (link_dir node dir name) (link_dirs_among node dir more)

-- the directories of links in the directories of units, first to last, and in each of them in the order of their names
abbrev pub link_dirs : Held → List UnitDir → List LinkDir
link_dirs held [] = []
link_dirs held (dir ∷ more) = link_dirs_among held.node dir (names_at held dir.real) ++ link_dirs held more

-- ---- the link of a name

-- a name in a directory, if what is there counts as a link
abbrev pub link_at : (List ℕ → Node) → UnitDir → List ℕ → Option (List ℕ)
link_at node dir name = if is_counted node (child dir.real name) then Some (child dir.path name) else None

-- a link to a template is one of the instance that the directory's unit means by it (systemd 252)
abbrev pub link_of_template : (List ℕ → Node) → LinkDir → List ℕ → Option (List ℕ) → Option (List ℕ)
link_of_template node link name None = None
link_of_template node link name (Some template) =
    if bytes_eq (wanted_name link.unit template) name then link_at node link.dir template else None

abbrev pub or_path : Option (List ℕ) → Option (List ℕ) → Option (List ℕ)
or_path None next = next
or_path (Some path) next = Some path

-- the path of the link of a name in a directory of links
abbrev pub link_in : (List ℕ → Node) → LinkDir → List ℕ → Option (List ℕ)
link_in node link name = or_path (link_at node link.dir name) (link_of_template node link name (template_of name))

-- the path of the first link of a name in directories of links (agenda)
abbrev pub first_link : (List ℕ → Node) → List LinkDir → List ℕ → Option (List ℕ)
first_link node [] name = None
first_link node (link ∷ more) name = or_path (link_in node link name) (first_link node more name)
