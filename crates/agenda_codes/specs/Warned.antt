-- The codes of warnings (agenda).
use Rattle.std.specs.Prelude.{Bool, true, false}
use Rattle.agenda_codes.specs.declared.code.Code.{Code}
use Rattle.agenda_codes.specs.declared.code.Code.TheVariants.{BadBoolean, BadDelay, CarriageReturn, CronDiffers, CronIgnores, Delayed, EitherDay, LineEnd}
use Rattle.agenda_codes.specs.declared.code.Code.TheVariants.{MayStop, Merged, Monotonic, NeverStarts, NoEvents, NoUser, Percent}
use Rattle.agenda_codes.specs.declared.code.Code.TheVariants.{RangeFromEnd, SkippedStarts, SystemdRejects, TimerRejected, UnitIgnored, UnknownKey, ZoneSetting}

-- whether a code is that of a warning; the others are those of errors
abbrev pub is_of_warning : Code → Bool
is_of_warning BadBoolean = true
is_of_warning BadDelay = true
is_of_warning CarriageReturn = true
is_of_warning CronDiffers = true
is_of_warning CronIgnores = true
is_of_warning Delayed = true
is_of_warning EitherDay = true
is_of_warning LineEnd = true
is_of_warning MayStop = true
is_of_warning Merged = true
is_of_warning Monotonic = true
is_of_warning NeverStarts = true
is_of_warning NoEvents = true
is_of_warning NoUser = true
is_of_warning Percent = true
is_of_warning RangeFromEnd = true
is_of_warning SkippedStarts = true
is_of_warning SystemdRejects = true
is_of_warning TimerRejected = true
is_of_warning UnitIgnored = true
is_of_warning UnknownKey = true
is_of_warning ZoneSetting = true
is_of_warning other = false
