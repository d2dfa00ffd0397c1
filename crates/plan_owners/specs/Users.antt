-- The users of a machine (passwd(5)). Where that page leaves a line open, these are the users that glibc reads (nss_files).
use Rattle.std.specs.Prelude.{ℕ, Bool, not, ◌&&◌, ◌||◌, ◌==◌, nat_lt, if◌then◌else◌, List, [], ◌∷◌, length, drop, map, take, Option, None, Some, codes}
use Rattle.std.specs.Char.{is_ascii_digit, is_ascii_whitespace}
use Rattle.std.specs.Fmt.{decimal}
use Rattle.std.specs.List.{filter_map, list_all, prefix_len}
use Rattle.std.specs.Option.{option_and_then, option_map}
use Rattle.std.specs.Str.{byte, bytes_eq, is_utf8}
use Rattle.std.specs.Str.Parse.{without_leading_plus}
use Rattle.plan_owners.specs.declared.users.User.{User}
use Rattle.plan_rules.specs.Names.{with_names}
use Rattle.plan_texts.specs.Lines.{is_too_large}
use Rattle.plan_texts.specs.Text.{begins_with, digits_after, pieces}
use Rattle.plan_tree.specs.Contents.{contents_of}
use Rattle.plan_tree.specs.Tree.{Held}

-- ---- one field

-- a field that is UTF-8, without the white space before it (nss_files, which skips vertical tabs, too)
abbrev pub text_in : List ℕ → Option (List ℕ)
text_in field = if is_utf8 field then Some (drop (prefix_len is_ascii_whitespace field) field) else None

-- a line that begins with `#` is a comment, and one with `+` or `-` is of users who are elsewhere (nss_files, nsswitch.conf(5))
abbrev pub is_mark : ℕ → Bool
is_mark b = (b == byte "#") || ((b == byte "+") || (b == byte "-"))

abbrev pub name_of : List ℕ → Option (List ℕ)
name_of text = if begins_with is_mark text then None else Some text

-- the name of a user
abbrev pub name_in : List ℕ → Option (List ℕ)
name_in field = option_and_then name_of (text_in field)

-- the number that digits write, which is below 2 ^ 32 (nss_files)
abbrev pub number_by : List ℕ → Option ℕ
number_by digits =
    if not (length digits == 0) && (list_all is_ascii_digit digits && nat_lt (digits_after 0 digits) 4294967296)
    then Some (digits_after 0 digits)
    else None

-- a number is written with digits, and there may be a `+` before them (strtoul(3)); with a `-` it is none (agenda)
abbrev pub id_of : List ℕ → Option ℕ
id_of text = number_by (without_leading_plus text)

-- the number of a user or a group
abbrev pub id_in : List ℕ → Option ℕ
id_in field = option_and_then id_of (text_in field)

-- the home directory among the fields after the group; it is empty if the line has none (nss_files), or one that isn't UTF-8 (agenda)
abbrev pub home_in : List (List ℕ) → List ℕ
home_in [] = []
home_in (comment ∷ []) = []
home_in (comment ∷ home ∷ more) = if is_utf8 home then home else []

-- ---- one line

-- the user with this name, this number and this home directory, where the group has a number
abbrev pub user_with : (name : Option (List ℕ)) → (number group : Option ℕ) → (home : List ℕ) → Option User
user_with (Some name) (Some number) (Some group) home = Some (record { name = name; number = decimal number; home = home })
user_with _ _ _ home = None

-- the fields of a user are the name, a password, the number, that of the group, a comment, the home directory and the shell
-- (passwd(5)); those after the group may be missing (nss_files)
abbrev pub user_by : List (List ℕ) → Option User
user_by [] = None
user_by (name ∷ []) = None
user_by (name ∷ password ∷ []) = None
user_by (name ∷ password ∷ number ∷ []) = None
user_by (name ∷ password ∷ number ∷ group ∷ more) = user_with (name_in name) (id_in number) (id_in group) (home_in more)

-- the user of a line, whose fields are between colons (passwd(5))
unfoldable pub user_in : List ℕ → Option User
user_in line = user_by (pieces (byte ":") line)

-- ---- all lines

abbrev pub users_in : List (List ℕ) → List User
users_in lines = filter_map user_in lines

-- the users in what was read, if anything was; what is too large says nothing of users (agenda)
abbrev pub users_of_found : Option (List ℕ) → Option (List User)
users_of_found None = None
users_of_found (Some bytes) = if is_too_large bytes then None else Some (users_in (pieces (byte "\n") bytes))

-- the users in the first bytes of a file. It has a name of its own, so that the prover doesn't follow a path that is known
unfoldable pub users_at : Held → (most : ℕ) → (path : List ℕ) → Option (List User)
users_at held most path = users_of_found (option_map (take most) (contents_of held path))

-- the users of a machine, if its etc/passwd can be read; of one that is too large, the first 1,048,577 bytes show that (agenda)
abbrev pub users_of : Held → Option (List User)
users_of held = users_at held 1048577 (codes "etc/passwd")

-- ---- a user by name

-- the number of the first user with a name (passwd(5))
abbrev pub number_of : List User → (name : List ℕ) → Option (List ℕ)
number_of [] name = None
number_of (user ∷ more) name = if bytes_eq user.name name then Some user.number else number_of more name

-- the names of users, each once
abbrev pub names_of : List User → List (List ℕ)
names_of users = with_names [] (map (λ user. user.name) users)
