-- The idle jobs of a crontab, and its text without them (agenda).
use Rattle.std.specs.Prelude.{◌≡◌, ℕ, ◌+◌, ◌==◌, Bool, not, if◌then◌else◌, List, [], ◌∷◌, length, filter, Option, None, Some, Ok, Err}
use Rattle.std.specs.List.{cons_option, list_any}
use Rattle.plan_idle.specs.Answers.{Asker, answer_at}
use Rattle.plan_idle.specs.Known.{places_of}
use Rattle.plan_idle.specs.Reason.{reason_of}
use Rattle.plan_rules.specs.declared.crontabs.Kind.{Kind}
use Rattle.plan_rules.specs.declared.entry.Entry.{Entry}
use Rattle.plan_rules.specs.Crontab.{entries_of_lines}
use Rattle.plan_rules.specs.FileText.{text_reading}
use Rattle.plan_rules.specs.LineFaults.{TextReading}
use Rattle.plan_shell.specs.Tree.{tree_of}
use Rattle.plan_texts.specs.Lines.{lines, written}
use Rattle.plan_tree.specs.Tree.{Held}
use Rattle.plan_runs.specs.declared.idle.IdleJob.{IdleJob}
use Rattle.plan_runs.specs.declared.commands.LineCommand.{LineCommand}
use Rattle.plan_runs.specs.Commands.{line_command}
use Rattle.plan_runs.specs.Settings.{Settings, first_settings, settings_after}
use Rattle.plan_runs.specs.Texts.{KnownActive}

-- ---- one line

-- who looks, where a command runs with these settings
abbrev pub asker_of : Settings → (is_root : Bool) → Asker
asker_of settings is_root = record { is_root = is_root; is_bash = settings.is_bash; path = settings.path }

-- why a command is idle in a tree, with these settings; nothing, if it isn't
abbrev pub command_why : Held → Settings → Option LineCommand → Option (List ℕ)
command_why held settings None = None
command_why held settings (Some command) =
    reason_of (answer_at held (places_of held) (asker_of settings command.is_root)) (tree_of command.list)

-- why the job of a line is idle; nothing, if it has none or it isn't idle
abbrev pub idle_why : Held → Kind → Settings → (number : ℕ) → (line : List ℕ) → Option (List ℕ)
idle_why held kind settings number line = command_why held settings (line_command kind settings number line)

-- the idle job of a line with this number, if it is idle for this reason
abbrev pub idle_on : (number : ℕ) → (why : Option (List ℕ)) → Option IdleJob
idle_on number None = None
idle_on number (Some why) = Some (record { line = number; why = why })

-- a line of which the job may be idle for this reason: an idle one leaves an empty line
abbrev pub kept_line : (why : Option (List ℕ)) → (line : List ℕ) → List ℕ
kept_line None line = line
kept_line (Some why) line = []

-- ---- all lines; the first has this number, and these settings are in force there

abbrev pub idle_from : Held → Kind → Settings → (number : ℕ) → (ls : List (List ℕ)) → List IdleJob
idle_from held kind settings number [] = []
idle_from held kind settings number (line ∷ more) =
    cons_option (idle_on number (idle_why held kind settings number line))
    (idle_from held kind (settings_after settings line) (number + 1) more)

abbrev pub kept_from : Held → Kind → Settings → (number : ℕ) → (ls : List (List ℕ)) → List (List ℕ)
kept_from held kind settings number [] = []
kept_from held kind settings number (line ∷ more) =
    kept_line (idle_why held kind settings number line) line
    ∷ kept_from held kind (settings_after settings line) (number + 1) more

abbrev pub active_lines : Held → Kind → (owner : List ℕ) → (ls : List (List ℕ)) → KnownActive
active_lines held kind owner ls = record {
  text = written (kept_from held kind (first_settings owner) 1 ls);
  idle = idle_from held kind (first_settings owner) 1 ls;
}

-- ---- a crontab

-- nothing is idle, and the text stays as it is
abbrev pub all_active : (bytes : List ℕ) → KnownActive
all_active bytes = record { text = bytes; idle = [] }

-- without idle jobs the text stays as it is
abbrev pub active_or_all : (bytes : List ℕ) → KnownActive → KnownActive
active_or_all bytes active = if length active.idle == 0 then all_active bytes else active

-- a text that is too large or isn't UTF-8 makes no jobs anyway
abbrev pub active_crontab : Held → Kind → (owner bytes : List ℕ) → TextReading (List ℕ) → KnownActive
active_crontab held kind owner bytes (Ok text) = active_or_all bytes (active_lines held kind owner (lines text))
active_crontab held kind owner bytes (Err fault) = all_active bytes

-- ---- the laws

-- an entry isn't that of the line of an idle job
abbrev pub is_active : {A : Type 0} → List IdleJob → Entry A → Bool
is_active idle entry = not (list_any (λ job. job.line == entry.line) idle)

-- the text without the idle jobs has the entries of the others, and their lines have the same numbers
abbrev pub IdleJobsAreLeftOut : Type 0
IdleJobsAreLeftOut =
    (held : Held) (kind : Kind) (owner label text : List ℕ) →
    let active = active_crontab held kind owner text (Ok text) in
    entries_of_lines label kind (lines active.text)
    ≡ filter (λ entry. is_active active.idle entry) (entries_of_lines label kind (lines text))

-- the text without the idle jobs is neither too large nor other than UTF-8
abbrev pub ActiveTextIsRead : Type 0
ActiveTextIsRead =
    (held : Held) (kind : Kind) (owner bytes text : List ℕ) → text_reading bytes ≡ Ok text →
    let active = active_crontab held kind owner bytes (Ok text) in
    text_reading active.text ≡ Ok active.text
