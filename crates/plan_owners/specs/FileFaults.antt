-- Why Debian's cron ignores the file of a crontab by its owner, its mode or its links (cron 3.0pl1, database.c).
use Rattle.std.specs.Prelude.{ℕ, ◌/◌, ◌%◌, ◌-◌, ◌*◌, ◌+◌, Bool, true, not, ◌&&◌, ◌||◌, ◌==◌, if◌then◌else◌, List, ◌++◌, Option, None, Some, codes}
use Rattle.std.specs.Fmt.{decimal}
use Rattle.std.specs.Option.{option_or}
use Rattle.std.specs.Str.{bytes_eq}
use Rattle.plan_owners.specs.declared.file_faults.FileFault.{FileFault}
use Rattle.plan_owners.specs.declared.file_faults.FileFault.TheVariants.{LinkOwner, Owner, Writable, Mode, HardLinks, IsLink}
use Rattle.plan_owners.specs.declared.looks.Look.{Look}
use Rattle.plan_tree.specs.declared.tree.Status.{Status}

-- ---- one rule

-- a link has to be owned by root
abbrev pub link_owner_fault : (counts : Bool) → Option Status → Option FileFault
link_owner_fault counts None = None
link_owner_fault counts (Some link) = if counts && not (link.owner == 0) then Some (LinkOwner link.owner) else None

-- a file of the system has to be owned by root
abbrev pub owner_fault : (counts : Bool) → Option Status → Option FileFault
owner_fault counts None = None
owner_fault counts (Some file) = if counts && not (file.owner == 0) then Some (Owner file.owner) else None

-- a file of a user has to be owned by root or by the user with this number, if that is known
abbrev pub is_owner : ℕ → Option (List ℕ) → Bool
is_owner owner None = true
is_owner owner (Some number) = owner == 0 || bytes_eq (decimal owner) number

abbrev pub user_owner_fault : (counts : Bool) → (number : Option (List ℕ)) → Option Status → Option FileFault
user_owner_fault counts number None = None
user_owner_fault counts number (Some file) = if counts && not (is_owner file.owner number) then Some (Owner file.owner) else None

-- the bits of a mode by which the group and others may write, 0020 and 0002 (inode(7))
abbrev pub write_bits : ℕ → ℕ
write_bits mode = mode / 16 % 2 * 16 + mode / 2 % 2 * 2

-- the group and others must not be able to write a file of the system
abbrev pub write_fault : (counts : Bool) → Option Status → Option FileFault
write_fault counts None = None
write_fault counts (Some file) = if counts && not (write_bits file.mode == 0) then Some (Writable file.mode) else None

-- the mode of a file of a user has to be 0600, that is 384
abbrev pub mode_fault : (counts : Bool) → Option Status → Option FileFault
mode_fault counts None = None
mode_fault counts (Some file) = if counts && not (file.mode == 384) then Some (Mode file.mode) else None

-- a file may not have several hard links
abbrev pub links_fault : Option Status → Option FileFault
links_fault None = None
links_fault (Some file) = if file.links == 1 then None else Some (HardLinks file.links)

-- a file of a user may not be a link
abbrev pub link_fault : (is_link : Bool) → Option FileFault
link_fault is_link = if is_link then Some IsLink else None

-- ---- a file

-- what is wrong with etc/crontab or a file in etc/cron.d, the first of these
unfoldable pub system_fault : (counts : Bool) → Look → Option FileFault
system_fault counts look =
    option_or (link_owner_fault counts look.link)
    (option_or (owner_fault counts look.file) (option_or (write_fault counts look.file) (links_fault look.file)))

-- what is wrong with the file of a user whose number is this, the first of these
unfoldable pub user_fault : (counts : Bool) → (number : Option (List ℕ)) → Look → Option FileFault
user_fault counts number look =
    option_or (link_fault look.is_link)
    (option_or (user_owner_fault counts number look.file) (option_or (mode_fault counts look.file) (links_fault look.file)))

-- ---- in words

-- the permissions of a mode as four octal digits
abbrev pub octal : ℕ → List ℕ
octal mode = decimal (mode / 512 % 8) ++ (decimal (mode / 64 % 8) ++ (decimal (mode / 8 % 8) ++ decimal (mode % 8)))

-- what is, and what has to be, where the file has to be owned by `owner` (agenda)
abbrev pub fault_text : (owner : List ℕ) → FileFault → List ℕ
fault_text owner (LinkOwner number) = codes "link owned by user " ++ (decimal number ++ codes ", not root")
fault_text owner (Owner number) = codes "owned by user " ++ (decimal number ++ (codes ", not " ++ owner))
fault_text owner (Writable mode) = codes "mode " ++ (octal mode ++ (codes ", not " ++ octal (mode - write_bits mode)))
fault_text owner (Mode mode) = codes "mode " ++ (octal mode ++ codes ", not 0600")
fault_text owner (HardLinks number) = decimal number ++ codes " hard links, not 1"
fault_text owner IsLink = codes "a link, not a regular file"
