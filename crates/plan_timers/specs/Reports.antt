-- Why something is skipped or isn't planned, as it is printed (agenda).
use Rattle.std.specs.Prelude.{ℕ, Bool, true, false, List, ◌++◌, codes}
use Rattle.plan_timers.specs.declared.reports.Why.{Why}
use Rattle.plan_timers.specs.declared.reports.Why.TheVariants.{NoLink, BadName, Escape, NoSuchTimer, Masked, NotReadable, NameTaken, NotUtf8, WantedBy}
use Rattle.plan_timers.specs.declared.reports.Unplanned.{Unplanned}
use Rattle.plan_timers.specs.declared.reports.Unplanned.TheVariants.{Anacron, StartsBy, AlsoStartsBy, AtJobs, UserTimers, NotLingering, UnitMissing, UnitMasked, UnitIdle, NotLoaded, LineNotLoaded, LineUnknown, Idle}

-- why something is skipped
abbrev pub why_text : Why → List ℕ
why_text NoLink = codes "no link"
why_text BadName = codes "bad name"
why_text Escape = codes "escape"
why_text NoSuchTimer = codes "no such timer"
why_text Masked = codes "masked"
why_text NotReadable = codes "not readable"
why_text NameTaken = codes "name taken"
why_text NotUtf8 = codes "a name that isn't UTF-8"
why_text (WantedBy unit) = codes "may be started by " ++ unit ++ codes ""

-- why something that starts jobs isn't planned
abbrev pub unplanned_text : Unplanned → List ℕ
unplanned_text Anacron = codes "anacron starts jobs by days since they ran"
unplanned_text (StartsBy key) = codes "starts by " ++ key ++ codes "="
unplanned_text (AlsoStartsBy key) = codes "also starts by " ++ key ++ codes "="
unplanned_text AtJobs = codes "jobs of at"
unplanned_text UserTimers = codes "user timers"
unplanned_text (NotLingering user) = codes "user " ++ user ++ codes " does not linger"
unplanned_text (UnitMissing unit) = codes "its unit " ++ unit ++ codes " is missing"
unplanned_text (UnitMasked unit) = codes "its unit " ++ unit ++ codes " is masked"
unplanned_text (UnitIdle unit) = codes "its unit " ++ unit ++ codes " has no ExecStart="
unplanned_text (NotLoaded why) = why
unplanned_text (LineNotLoaded line why) = why
unplanned_text (LineUnknown line why) = why
unplanned_text (Idle line why) = why

-- ---- what is unknown

-- it may start, and when can't be told from the files: by days since the last run, by a time since the boot or the like, whenever a
-- user asked at for it, by the manager of a user, or by a rule that agenda doesn't read. All else is off: it surely starts nothing
abbrev pub is_unknown : Unplanned → Bool
is_unknown Anacron = true
is_unknown (StartsBy key) = true
is_unknown (AlsoStartsBy key) = true
is_unknown AtJobs = true
is_unknown UserTimers = true
is_unknown (NotLingering user) = false
is_unknown (UnitMissing unit) = false
is_unknown (UnitMasked unit) = false
is_unknown (UnitIdle unit) = false
is_unknown (NotLoaded why) = false
is_unknown (LineNotLoaded line why) = false
is_unknown (LineUnknown line why) = true
is_unknown (Idle line why) = false

-- the same of what is skipped: a name that agenda can't show, what can't be read, and a timer that a unit outside of the boot wants
abbrev pub is_unknown_skip : Why → Bool
is_unknown_skip NoLink = false
is_unknown_skip BadName = false
is_unknown_skip Escape = true
is_unknown_skip NoSuchTimer = false
is_unknown_skip Masked = false
is_unknown_skip NotReadable = true
is_unknown_skip NameTaken = true
is_unknown_skip NotUtf8 = true
is_unknown_skip (WantedBy unit) = true
