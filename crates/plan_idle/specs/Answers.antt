-- What a command finds where it looks in a tree (test(1), sh(1)).
use Rattle.std.specs.Prelude.{ℕ, Bool, true, false, not, ◌&&◌, ◌||◌, ◌==◌, nat_eq, if◌then◌else◌, bit_and, List, [], ◌∷◌, ◌++◌, length, filter, codes, Option, Some, None}
use Rattle.std.specs.Char.{is_ascii_alphanumeric}
use Rattle.std.specs.List.{ends_with, list_all, list_any, slice_split}
use Rattle.std.specs.Str.{byte, bytes_eq}
use Rattle.plan_texts.specs.Text.{begins_with}
use Rattle.plan_tree.specs.declared.links.End.{End}
use Rattle.plan_tree.specs.declared.links.End.TheVariants as end
use Rattle.plan_tree.specs.declared.tree.Node.{Node}
use Rattle.plan_tree.specs.declared.tree.Node.TheVariants as node
use Rattle.plan_tree.specs.declared.tree.Status.{Status}
use Rattle.plan_tree.specs.Links.{end_of}
use Rattle.plan_tree.specs.Order.{sorted}
use Rattle.plan_tree.specs.Place.{child}
use Rattle.plan_tree.specs.Tree.{Held}
use Rattle.plan_shell.specs.declared.step.Property.{Property}
use Rattle.plan_shell.specs.declared.step.Property.TheVariants as property
use Rattle.plan_idle.specs.declared.answer.Answer.{Answer}
use Rattle.plan_idle.specs.declared.answer.Answer.TheVariants.{Yes, No, Unknown, Acts}
use Rattle.plan_idle.specs.Known.{Places, known_in, lead_of}
use Rattle.plan_idle.specs.Run.{Looks}

-- ---- files

abbrev pub answer_of : Bool → Answer
answer_of true = Yes
answer_of false = No

abbrev pub exists_answer : Node → Answer
exists_answer node.Missing = No
exists_answer node.Unreadable = Unknown
exists_answer _ = Yes

abbrev pub file_answer : Node → Answer
file_answer (node.File is_empty) = Yes
file_answer node.Unreadable = Unknown
file_answer _ = No

abbrev pub directory_answer : Node → Answer
directory_answer node.Directory = Yes
directory_answer node.Unreadable = Unknown
directory_answer _ = No

-- a directory is never empty; a device may be
abbrev pub full_answer : Node → Answer
full_answer (node.File is_empty) = answer_of (not is_empty)
full_answer node.Directory = Yes
full_answer node.Unreadable = Unknown
full_answer node.Other = Unknown
full_answer _ = No

-- the execute bits of a mode: those of its owner, its group and others (inode(7))
abbrev pub mode_answer : Option Status → Answer
mode_answer None = Unknown
mode_answer (Some status) = answer_of (not (bit_and status.mode 73 == 0))

abbrev pub executable_answer : Node → Option Status → Answer
executable_answer (node.File is_empty) status = mode_answer status
executable_answer node.Directory status = Yes
executable_answer node.Unreadable status = Unknown
executable_answer _ status = No

-- whether what is at the end of a path's links has a property
abbrev pub node_answer : Property → Node → Option Status → Answer
node_answer property.Exists node status = exists_answer node
node_answer property.File node status = file_answer node
node_answer property.Directory node status = directory_answer node
node_answer property.NotEmpty node status = full_answer node
node_answer property.Executable node status = executable_answer node status
node_answer property.Command node status = Unknown
node_answer property.NoScripts node status = Acts

-- where systemd is the init, which sbin/init says, run/systemd/system is a directory while the machine runs (sd_booted(3))
abbrev pub booted_path : List ℕ
booted_path = codes "/run/systemd/system"

-- the path of a file named systemd
abbrev pub is_systemd : List ℕ → Bool
is_systemd place = bytes_eq place (codes "systemd") || ends_with nat_eq place (codes "/systemd")

-- systemd is the init of the machine: sbin/init leads to a file of that name (agenda)
abbrev pub init_answer : End → Answer
init_answer (end.Found place) = answer_of (is_systemd place)
init_answer end.Nothing = No
init_answer end.Unknown = Unknown

-- a directory, if something is so
abbrev pub directory_if : Property → Answer → Answer
directory_if property Yes = node_answer property node.Directory None
directory_if property answer = answer

-- what leads nowhere has no property; of the root nothing is said (agenda)
abbrev pub end_answer : Held → Property → End → Answer
end_answer held property (end.Found place) =
    if length place == 0 then Unknown else node_answer property (held.node place) (held.status place)
end_answer held property end.Nothing = No
end_answer held property end.Unknown = Unknown

-- whether what a path leads to has a property
abbrev pub path_answer : Held → Property → List ℕ → Answer
path_answer held property path = end_answer held property (end_of held.node path)

abbrev pub booted_by : Held → Property → End → Answer
booted_by held property (end.Found place) = end_answer held property (end.Found place)
booted_by held property end.Nothing = directory_if property (init_answer (lead_of held.node (codes "sbin/init")))
booted_by held property end.Unknown = Unknown

-- whether run/systemd/system has a property
abbrev pub booted_answer : Held → Property → Answer
booted_answer held property = booted_by held property (lead_of held.node booted_path)

-- ---- commands

abbrev pub and_answer : Answer → Answer → Answer
and_answer Yes second = second
and_answer first second = first

abbrev pub or_answer : Answer → Answer → Answer
or_answer No second = second
or_answer Unknown Yes = Yes
or_answer first second = first

-- whether a path leads to a regular file that is executable
abbrev pub program_answer : Held → List ℕ → Answer
program_answer held path = and_answer (path_answer held property.File path) (path_answer held property.Executable path)

-- the path of a name in a directory of PATH
abbrev pub path_in : (name : List ℕ) → (dir : List ℕ) → List ℕ
path_in name dir = dir ++ byte "/" ∷ name

-- whether a directory of PATH has a program; one that isn't a path from the root can't be looked at (agenda)
abbrev pub answer_in : Held → (name : List ℕ) → (dir : List ℕ) → Answer
answer_in held name dir =
    if begins_with (λ b. b == byte "/") dir then program_answer held (path_in name dir) else Unknown

-- whether one of some directories has it, after what was found in others
abbrev pub answer_among : Held → (name : List ℕ) → Answer → (dirs : List (List ℕ)) → Answer
answer_among held name found [] = found
answer_among held name found (dir ∷ dirs) = answer_among held name (or_answer found (answer_in held name dir)) dirs

-- the directories of PATH
abbrev pub dirs_of : List ℕ → List (List ℕ)
dirs_of path = slice_split (λ b. b == byte ":") path

-- a word is among the words of a text, with a colon between them
unfoldable pub is_among : (words : List ℕ) → (name : List ℕ) → Bool
is_among words name = list_any (bytes_eq name) (dirs_of words)

-- the reserved words and builtins that both dash(1) and bash(1) have
abbrev pub shared_words : List ℕ
shared_words = codes ".:alias:bg:break:case:cd:command:continue:do:done:echo:elif:else:esac:eval:exec:exit:export:false:fg:fi:for:getopts:hash:if:in:jobs:kill:local:printf:pwd:read:readonly:return:set:shift:test:then:times:trap:true:type:ulimit:umask:unalias:unset:until:wait:while"

-- those of bash alone; of fc dash(1) speaks, but Debian's has it not
abbrev pub bash_words : List ℕ
bash_words = codes "bind:builtin:caller:compgen:complete:compopt:coproc:declare:dirs:disown:enable:fc:function:help:history:let:logout:mapfile:popd:pushd:readarray:select:shopt:source:suspend:time:typeset"

-- those of dash alone
abbrev pub dash_words : List ℕ
dash_words = codes "chdir"

-- whether a word names a command, by the shell itself; what one of dash and bash alone has is known of bash only (agenda)
abbrev pub word_answer : (is_bash : Bool) → (name : List ℕ) → Answer
word_answer is_bash name =
    if is_among shared_words name then Yes else
    if is_among bash_words name then (if is_bash then Yes else Unknown) else
    if is_among dash_words name && not is_bash then Unknown else No

-- whether a command has this name: in the shell, or in a directory of PATH
abbrev pub command_by : Held → (name path : List ℕ) → Answer → Answer
command_by held name path No = answer_among held name No (dirs_of path)
command_by held name path answer = answer

-- ---- scripts

-- a byte of the name of a script (run-parts(8))
abbrev pub is_script_byte : ℕ → Bool
is_script_byte b = is_ascii_alphanumeric b || ((b == byte "_") || (b == byte "-"))

-- the name of a script
abbrev pub is_script_name : List ℕ → Bool
is_script_name name = list_all is_script_byte name

abbrev pub is_no : Answer → Bool
is_no No = true
is_no _ = false

abbrev pub is_yes : Answer → Bool
is_yes Yes = true
is_yes _ = false

-- a name in a directory may be that of a script
abbrev pub may_run : Held → (dir name : List ℕ) → Bool
may_run held dir name = is_script_name name && not (is_no (program_answer held (child dir name)))

-- run-parts runs nothing, if none of some names in a directory may be that of a script
abbrev pub no_scripts_in : Held → (dir : List ℕ) → (names : List (List ℕ)) → Answer
no_scripts_in held dir [] = Yes
no_scripts_in held dir (name ∷ names) = if may_run held dir name then Acts else no_scripts_in held dir names

-- what isn't listed may have scripts
abbrev pub listed_answer : Held → (dir : List ℕ) → Option (List (List ℕ) × Bool) → Answer
listed_answer held dir None = Acts
listed_answer held dir (Some listing) = if listing.1 then no_scripts_in held dir listing.0 else Acts

abbrev pub directory_scripts : Held → (dir : List ℕ) → Node → Answer
directory_scripts held dir node.Directory = listed_answer held dir (held.names dir)
directory_scripts held dir _ = Acts

abbrev pub no_scripts_answer : Held → End → Answer
no_scripts_answer held (end.Found dir) = directory_scripts held dir (held.node dir)
no_scripts_answer held _ = Acts

-- ---- who looks

-- a user, who is root or not; a shell, which is bash, or else dash or bash; and its PATH
pub record Asker : Type 0 where
  pub is_root : Bool
  pub is_bash : Bool
  pub path : List ℕ

-- programs change the sizes of files: `-s` is known in usr alone (agenda)
abbrev pub only_usr : Property → Bool
only_usr property.NotEmpty = true
only_usr _ = false

-- what a command finds where it looks for a property of a path or a name, if what is at these places is known
abbrev pub answer_at : Held → Places → Asker → Looks
answer_at held places asker property.Command name =
    command_by (known_in places asker.is_root false held) name asker.path (word_answer asker.is_bash name)
answer_at held places asker property.NoScripts dir =
    no_scripts_answer (known_in places asker.is_root false held) (end_of (known_in places asker.is_root false held).node dir)
answer_at held places asker property subject =
    if bytes_eq subject booted_path then booted_answer held property
    else path_answer (known_in places asker.is_root (only_usr property) held) property subject

-- ---- the scripts of a directory

-- a name in a directory is that of a script
abbrev pub is_script : Held → (dir name : List ℕ) → Bool
is_script held dir name = is_script_name name && is_yes (program_answer held (child dir name))

-- the scripts among some names, in their order
abbrev pub scripts_among : Held → (dir : List ℕ) → (names : List (List ℕ)) → List (List ℕ)
scripts_among held dir names = filter (is_script held dir) names

abbrev pub listed_scripts : Held → (dir : List ℕ) → Option (List (List ℕ) × Bool) → List (List ℕ)
listed_scripts held dir None = []
listed_scripts held dir (Some listing) = scripts_among held dir (sorted listing.0)

abbrev pub scripts_at : Held → End → List (List ℕ)
scripts_at held (end.Found dir) = listed_scripts held dir (held.names dir)
scripts_at held _ = []

-- the scripts of a directory, in the order of their bytes (run-parts(8) of Debian)
abbrev pub scripts_of : Held → (path : List ℕ) → List (List ℕ)
scripts_of held path = scripts_at held (end_of held.node path)
