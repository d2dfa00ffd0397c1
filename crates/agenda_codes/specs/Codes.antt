-- The codes of errors and warnings (agenda).
use Rattle.std.specs.Prelude.{ℕ, List, [], ◌∷◌, find, Option, codes}
use Rattle.std.specs.Str.{str_eq_ignore_ascii_case}
use Rattle.agenda_codes.specs.declared.code.Code.{Code}
use Rattle.agenda_codes.specs.declared.code.Code.TheVariants.{Backwards, BadBaseline, BadBoolean, BadCount, BadDelay, BadForm, BadLeast, BadLength, BadLimit, BadLine}
use Rattle.agenda_codes.specs.declared.code.Code.TheVariants.{BadName, BadNumber, BadSetting, BadSize, BadTabName, BadTime, BadTimerName, BadZone}
use Rattle.agenda_codes.specs.declared.code.Code.TheVariants.{BadZoneName, CarriageReturn, Delayed, Device, EitherDay, EmptySpan, Fraction}
use Rattle.agenda_codes.specs.declared.code.Code.TheVariants.{Full, Monotonic, NeverStarts, NoCommand, NoEvents, NoMemory}
use Rattle.agenda_codes.specs.declared.code.Code.TheVariants.{NoSuchDate, NoSuchZone, NoTimerSection, NotSettled, NotUtf8, NothingNamed}
use Rattle.agenda_codes.specs.declared.code.Code.TheVariants.{OutOfRange, OutOfYears, Percent, SameName, SkippedStarts, Specifier}
use Rattle.agenda_codes.specs.declared.code.Code.TheVariants.{TooLarge, TooMany, TooManyLines, TooManySteps, UnknownKey}
use Rattle.agenda_codes.specs.declared.code.Code.TheVariants.{UnknownWord, WrongParts, ZeroStep, Zone, ZoneSetting}
use Rattle.agenda_codes.specs.declared.code.Code.TheVariants.{CronDiffers, CronIgnores, LineEnd, MayStop, Merged, NoUser, RangeFromEnd, SystemdRejects, TimerRejected, UnitIgnored}
use Rattle.agenda_codes.specs.declared.texts.sentences.TheConstants as sentence
use Rattle.agenda_codes.specs.declared.texts.requests.TheConstants.{BAD_BASELINE, BAD_COUNT, BAD_FORM, BAD_LEAST, BAD_LENGTH, BAD_LIMIT, BAD_SIZE, BAD_TIME, BAD_ZONE}
use Rattle.agenda_codes.specs.declared.texts.requests.TheConstants.{BAD_ZONE_NAME, DEVICE, EMPTY_SPAN, NO_MEMORY, NO_SUCH_DATE, NO_SUCH_ZONE}
use Rattle.agenda_codes.specs.declared.texts.requests.TheConstants.{NOTHING_NAMED, NOT_SETTLED, OUT_OF_YEARS, TOO_MANY}
use Rattle.agenda_codes.specs.declared.texts.rules.TheConstants.{BACKWARDS, BAD_NAME, BAD_NUMBER, FRACTION, OUT_OF_RANGE, SPECIFIER}
use Rattle.agenda_codes.specs.declared.texts.rules.TheConstants.{UNKNOWN_WORD, WRONG_PARTS, ZERO_STEP, ZONE}
use Rattle.agenda_codes.specs.declared.texts.files.TheConstants.{BAD_LINE, BAD_SETTING, BAD_TAB_NAME, BAD_TIMER_NAME, FULL}
use Rattle.agenda_codes.specs.declared.texts.files.TheConstants.{NO_COMMAND, NO_TIMER_SECTION, NOT_UTF8, SAME_NAME, TOO_LARGE}
use Rattle.agenda_codes.specs.declared.texts.files.TheConstants.{TOO_MANY_LINES, TOO_MANY_STEPS}
use Rattle.agenda_codes.specs.declared.texts.warnings.TheConstants.{BAD_BOOLEAN, BAD_DELAY, CARRIAGE_RETURN, DELAYED, EITHER_DAY, MONOTONIC, NEVER_STARTS}
use Rattle.agenda_codes.specs.declared.texts.warnings.TheConstants.{NO_EVENTS, PERCENT, SKIPPED_STARTS, UNKNOWN_KEY, ZONE_SETTING}
use Rattle.agenda_codes.specs.declared.texts.warnings.TheConstants.{CRON_DIFFERS, CRON_IGNORES, LINE_END, MAY_STOP, MERGED, NO_USER, RANGE_FROM_END, SYSTEMD_REJECTS, TIMER_REJECTED, UNIT_IGNORED}

-- all codes, in the order of their names
unfoldable pub all_codes : List Code
all_codes = Backwards ∷ BadBaseline ∷ BadBoolean ∷ BadCount ∷ BadDelay ∷ BadForm ∷ BadLeast ∷ BadLength ∷ BadLimit ∷ BadLine ∷ BadName
    ∷ BadNumber ∷ BadSetting ∷ BadSize ∷ BadTabName ∷ BadTime ∷ BadTimerName ∷ BadZone ∷ BadZoneName ∷ CarriageReturn
    ∷ CronDiffers ∷ CronIgnores ∷ Delayed ∷ Device ∷ EitherDay ∷ EmptySpan ∷ Fraction ∷ Full ∷ LineEnd ∷ MayStop ∷ Merged
    ∷ Monotonic ∷ NeverStarts ∷ NoCommand ∷ NoEvents ∷ NoMemory ∷ NoSuchDate ∷ NoSuchZone ∷ NoTimerSection ∷ NoUser
    ∷ NotSettled ∷ NotUtf8 ∷ NothingNamed ∷ OutOfRange ∷ OutOfYears ∷ Percent ∷ RangeFromEnd ∷ SameName ∷ SkippedStarts ∷ Specifier
    ∷ SystemdRejects ∷ TimerRejected ∷ TooLarge ∷ TooMany ∷ TooManyLines ∷ TooManySteps ∷ UnitIgnored ∷ UnknownKey
    ∷ UnknownWord ∷ WrongParts ∷ ZeroStep ∷ Zone ∷ ZoneSetting ∷ []

-- the name of a code
abbrev pub name_of : Code → List ℕ
name_of Backwards = codes "Backwards"
name_of BadBaseline = codes "BadBaseline"
name_of BadBoolean = codes "BadBoolean"
name_of BadCount = codes "BadCount"
name_of BadDelay = codes "BadDelay"
name_of BadForm = codes "BadForm"
name_of BadLeast = codes "BadLeast"
name_of BadLength = codes "BadLength"
name_of BadLimit = codes "BadLimit"
name_of BadLine = codes "BadLine"
name_of BadName = codes "BadName"
name_of BadNumber = codes "BadNumber"
name_of BadSetting = codes "BadSetting"
name_of BadSize = codes "BadSize"
name_of BadTabName = codes "BadTabName"
name_of BadTime = codes "BadTime"
name_of BadTimerName = codes "BadTimerName"
name_of BadZone = codes "BadZone"
name_of BadZoneName = codes "BadZoneName"
name_of CarriageReturn = codes "CarriageReturn"
name_of CronDiffers = codes "CronDiffers"
name_of CronIgnores = codes "CronIgnores"
name_of Delayed = codes "Delayed"
name_of Device = codes "Device"
name_of EitherDay = codes "EitherDay"
name_of EmptySpan = codes "EmptySpan"
name_of Fraction = codes "Fraction"
name_of Full = codes "Full"
name_of LineEnd = codes "LineEnd"
name_of MayStop = codes "MayStop"
name_of Merged = codes "Merged"
name_of Monotonic = codes "Monotonic"
name_of NeverStarts = codes "NeverStarts"
name_of NoCommand = codes "NoCommand"
name_of NoEvents = codes "NoEvents"
name_of NoMemory = codes "NoMemory"
name_of NoSuchDate = codes "NoSuchDate"
name_of NoSuchZone = codes "NoSuchZone"
name_of NoTimerSection = codes "NoTimerSection"
name_of NoUser = codes "NoUser"
name_of NotSettled = codes "NotSettled"
name_of NotUtf8 = codes "NotUtf8"
name_of NothingNamed = codes "NothingNamed"
name_of OutOfRange = codes "OutOfRange"
name_of OutOfYears = codes "OutOfYears"
name_of Percent = codes "Percent"
name_of RangeFromEnd = codes "RangeFromEnd"
name_of SameName = codes "SameName"
name_of SkippedStarts = codes "SkippedStarts"
name_of Specifier = codes "Specifier"
name_of SystemdRejects = codes "SystemdRejects"
name_of TimerRejected = codes "TimerRejected"
name_of TooLarge = codes "TooLarge"
name_of TooMany = codes "TooMany"
name_of TooManyLines = codes "TooManyLines"
name_of TooManySteps = codes "TooManySteps"
name_of UnitIgnored = codes "UnitIgnored"
name_of UnknownKey = codes "UnknownKey"
name_of UnknownWord = codes "UnknownWord"
name_of WrongParts = codes "WrongParts"
name_of ZeroStep = codes "ZeroStep"
name_of Zone = codes "Zone"
name_of ZoneSetting = codes "ZoneSetting"

-- the first of these codes that has this name; upper and lower case are the same
abbrev pub first_named : List ℕ → List Code → Option Code
first_named name all = find (λ code. str_eq_ignore_ascii_case (name_of code) name) all

-- the code with this name; upper and lower case are the same
unfoldable pub code_named : List ℕ → Option Code
code_named name = first_named name all_codes

-- what a code means, in one sentence
abbrev pub sentence_of : Code → List ℕ
sentence_of Backwards = sentence.BACKWARDS.now
sentence_of BadBaseline = sentence.BAD_BASELINE.now
sentence_of BadBoolean = sentence.BAD_BOOLEAN.now
sentence_of BadCount = sentence.BAD_COUNT.now
sentence_of BadDelay = sentence.BAD_DELAY.now
sentence_of BadForm = sentence.BAD_FORM.now
sentence_of BadLeast = sentence.BAD_LEAST.now
sentence_of BadLength = sentence.BAD_LENGTH.now
sentence_of BadLimit = sentence.BAD_LIMIT.now
sentence_of BadLine = sentence.BAD_LINE.now
sentence_of BadName = sentence.BAD_NAME.now
sentence_of BadNumber = sentence.BAD_NUMBER.now
sentence_of BadSetting = sentence.BAD_SETTING.now
sentence_of BadSize = sentence.BAD_SIZE.now
sentence_of BadTabName = sentence.BAD_TAB_NAME.now
sentence_of BadTime = sentence.BAD_TIME.now
sentence_of BadTimerName = sentence.BAD_TIMER_NAME.now
sentence_of BadZone = sentence.BAD_ZONE.now
sentence_of BadZoneName = sentence.BAD_ZONE_NAME.now
sentence_of CarriageReturn = sentence.CARRIAGE_RETURN.now
sentence_of CronDiffers = sentence.CRON_DIFFERS.now
sentence_of CronIgnores = sentence.CRON_IGNORES.now
sentence_of Delayed = sentence.DELAYED.now
sentence_of Device = sentence.DEVICE.now
sentence_of EitherDay = sentence.EITHER_DAY.now
sentence_of EmptySpan = sentence.EMPTY_SPAN.now
sentence_of Fraction = sentence.FRACTION.now
sentence_of Full = sentence.FULL.now
sentence_of LineEnd = sentence.LINE_END.now
sentence_of MayStop = sentence.MAY_STOP.now
sentence_of Merged = sentence.MERGED.now
sentence_of Monotonic = sentence.MONOTONIC.now
sentence_of NeverStarts = sentence.NEVER_STARTS.now
sentence_of NoCommand = sentence.NO_COMMAND.now
sentence_of NoEvents = sentence.NO_EVENTS.now
sentence_of NoMemory = sentence.NO_MEMORY.now
sentence_of NoSuchDate = sentence.NO_SUCH_DATE.now
sentence_of NoSuchZone = sentence.NO_SUCH_ZONE.now
sentence_of NoTimerSection = sentence.NO_TIMER_SECTION.now
sentence_of NoUser = sentence.NO_USER.now
sentence_of NotSettled = sentence.NOT_SETTLED.now
sentence_of NotUtf8 = sentence.NOT_UTF8.now
sentence_of NothingNamed = sentence.NOTHING_NAMED.now
sentence_of OutOfRange = sentence.OUT_OF_RANGE.now
sentence_of OutOfYears = sentence.OUT_OF_YEARS.now
sentence_of Percent = sentence.PERCENT.now
sentence_of RangeFromEnd = sentence.RANGE_FROM_END.now
sentence_of SameName = sentence.SAME_NAME.now
sentence_of SkippedStarts = sentence.SKIPPED_STARTS.now
sentence_of Specifier = sentence.SPECIFIER.now
sentence_of SystemdRejects = sentence.SYSTEMD_REJECTS.now
sentence_of TimerRejected = sentence.TIMER_REJECTED.now
sentence_of TooLarge = sentence.TOO_LARGE.now
sentence_of TooMany = sentence.TOO_MANY.now
sentence_of TooManyLines = sentence.TOO_MANY_LINES.now
sentence_of TooManySteps = sentence.TOO_MANY_STEPS.now
sentence_of UnitIgnored = sentence.UNIT_IGNORED.now
sentence_of UnknownKey = sentence.UNKNOWN_KEY.now
sentence_of UnknownWord = sentence.UNKNOWN_WORD.now
sentence_of WrongParts = sentence.WRONG_PARTS.now
sentence_of ZeroStep = sentence.ZERO_STEP.now
sentence_of Zone = sentence.ZONE.now
sentence_of ZoneSetting = sentence.ZONE_SETTING.now

-- what a code means and what to do about it, in lines
abbrev pub text_of : Code → List ℕ
text_of Backwards = BACKWARDS.now
text_of BadBaseline = BAD_BASELINE.now
text_of BadBoolean = BAD_BOOLEAN.now
text_of BadCount = BAD_COUNT.now
text_of BadDelay = BAD_DELAY.now
text_of BadForm = BAD_FORM.now
text_of BadLeast = BAD_LEAST.now
text_of BadLength = BAD_LENGTH.now
text_of BadLimit = BAD_LIMIT.now
text_of BadLine = BAD_LINE.now
text_of BadName = BAD_NAME.now
text_of BadNumber = BAD_NUMBER.now
text_of BadSetting = BAD_SETTING.now
text_of BadSize = BAD_SIZE.now
text_of BadTabName = BAD_TAB_NAME.now
text_of BadTime = BAD_TIME.now
text_of BadTimerName = BAD_TIMER_NAME.now
text_of BadZone = BAD_ZONE.now
text_of BadZoneName = BAD_ZONE_NAME.now
text_of CarriageReturn = CARRIAGE_RETURN.now
text_of CronDiffers = CRON_DIFFERS.now
text_of CronIgnores = CRON_IGNORES.now
text_of Delayed = DELAYED.now
text_of Device = DEVICE.now
text_of EitherDay = EITHER_DAY.now
text_of EmptySpan = EMPTY_SPAN.now
text_of Fraction = FRACTION.now
text_of Full = FULL.now
text_of LineEnd = LINE_END.now
text_of MayStop = MAY_STOP.now
text_of Merged = MERGED.now
text_of Monotonic = MONOTONIC.now
text_of NeverStarts = NEVER_STARTS.now
text_of NoCommand = NO_COMMAND.now
text_of NoEvents = NO_EVENTS.now
text_of NoMemory = NO_MEMORY.now
text_of NoSuchDate = NO_SUCH_DATE.now
text_of NoSuchZone = NO_SUCH_ZONE.now
text_of NoTimerSection = NO_TIMER_SECTION.now
text_of NoUser = NO_USER.now
text_of NotSettled = NOT_SETTLED.now
text_of NotUtf8 = NOT_UTF8.now
text_of NothingNamed = NOTHING_NAMED.now
text_of OutOfRange = OUT_OF_RANGE.now
text_of OutOfYears = OUT_OF_YEARS.now
text_of Percent = PERCENT.now
text_of RangeFromEnd = RANGE_FROM_END.now
text_of SameName = SAME_NAME.now
text_of SkippedStarts = SKIPPED_STARTS.now
text_of Specifier = SPECIFIER.now
text_of SystemdRejects = SYSTEMD_REJECTS.now
text_of TimerRejected = TIMER_REJECTED.now
text_of TooLarge = TOO_LARGE.now
text_of TooMany = TOO_MANY.now
text_of TooManyLines = TOO_MANY_LINES.now
text_of TooManySteps = TOO_MANY_STEPS.now
text_of UnitIgnored = UNIT_IGNORED.now
text_of UnknownKey = UNKNOWN_KEY.now
text_of UnknownWord = UNKNOWN_WORD.now
text_of WrongParts = WRONG_PARTS.now
text_of ZeroStep = ZERO_STEP.now
text_of Zone = ZONE.now
text_of ZoneSetting = ZONE_SETTING.now
