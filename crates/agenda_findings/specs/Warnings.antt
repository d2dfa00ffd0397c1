-- The messages of warnings, in words. They are our choice (agenda).
use Rattle.std.specs.Prelude.{ℕ, List, [], codes, Option, Some, None}
use Rattle.plan_check.specs.declared.Warning.{Warning}
use Rattle.plan_check.specs.declared.Warning.TheVariants as warning
use Rattle.agenda_findings.specs.Quotes.{around}

-- the message of a warning, or what comes before the text that it quotes
unfoldable pub before_quote : Warning → List ℕ
before_quote warning.NeverStarts = codes "never starts"
before_quote warning.EitherDay = codes "starts on days that match either day field, not both"
before_quote warning.NoEvents = codes "no OnCalendar= event, so no start is planned"
before_quote warning.Percent = codes "cron ends the command at the first % and passes the rest as input"
before_quote warning.CarriageReturn = codes "the command ends with a carriage return"
before_quote warning.ZoneSetting = codes "CRON_TZ is read by cronie alone; agenda reads all rules in one zone"
before_quote warning.Monotonic = codes "also starts by OnBootSec= or the like, which is not planned"
before_quote warning.Merged = codes "starts less than AccuracySec= apart may be merged; set AccuracySec=1s"
before_quote warning.CronIgnores = codes "cron ignores this file: "
before_quote warning.CronDiffers = []
before_quote warning.TimerRejected = codes "systemd 252 rejects this "
before_quote warning.LineEnd = codes "systemd "
before_quote warning.SkippedStarts = codes "systemd 252 may pass over starts of "
before_quote warning.UnknownKey = codes "unknown setting "
before_quote warning.BadDelay = []
before_quote warning.BadBoolean = []
before_quote warning.Delayed = codes "starts up to "
before_quote warning.SystemdRejects = codes "systemd 252 rejects "
before_quote warning.RangeFromEnd = codes "systemd 252 reads "
before_quote warning.MayStop = codes "systemd 252 may stop for good at "
before_quote warning.NoUser = []
before_quote warning.UnitIgnored = codes "systemd 252 ignores Unit="

-- what comes after the text that the message of a warning quotes; None if it quotes none
unfoldable pub after_quote : Warning → Option (List ℕ)
after_quote warning.SkippedStarts = Some (codes ": give the step an end")
after_quote warning.UnknownKey = Some (codes " in [Timer]")
after_quote warning.BadDelay = Some (codes " is not a time span")
after_quote warning.BadBoolean = Some (codes " is not a boolean")
after_quote warning.Delayed = Some (codes " later than planned (RandomizedDelaySec=)")
after_quote warning.SystemdRejects = Some (codes ": ")
after_quote warning.RangeFromEnd = Some (codes " otherwise: ")
after_quote warning.MayStop = Some (codes " in a zone with summer time: ")
after_quote warning.NoUser = Some (codes " is no user: this file's lines have a user before the command")
after_quote warning.UnitIgnored = Some []
after_quote other = None

-- a text with another one around it, if there is something that comes after it
abbrev pub around_if : (before text : List ℕ) → (after : Option (List ℕ)) → List ℕ
around_if before text None = before
around_if before text (Some after) = around before text after

-- a warning, before what it ends with
abbrev pub warning_message : Warning → (quote : List ℕ) → List ℕ
warning_message warning quote = around_if (before_quote warning) quote (after_quote warning)
