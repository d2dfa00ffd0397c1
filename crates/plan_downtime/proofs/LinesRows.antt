-- Worked rows of the lines of what jobs miss. They answer no goal of a function, but test `downtime_text`.
use Rattle.std.proofs.Common.{◌≡◌, true, List, [], ◌∷◌, ◌++◌, None, refl}
use Rattle.std.specs.Fmt.{digits}
use Rattle.std.specs.Prelude.{codes}
use Rattle.plan_sets.specs.Civil.{civil_fields, month_and_day, year_and_day}
use Rattle.plan_sets.specs.Moment.{moment_text_of}
use Rattle.plan_write.specs.Formats.{utc_text}
use Rattle.plan_write.specs.Texts.{EndParts}
use Rattle.plan_write.specs.declared.formats.Format.{Format}
use Rattle.plan_downtime.specs.declared.outcome.Outcome.TheVariants.{AtBoot, Lost, MadeUp}
use Rattle.plan_downtime.specs.Lines.{downtime_text}
use Rattle.plan_downtime.specs.Missed.{MissedParts}

-- a job that misses three starts, and one that misses a start and makes up for it
abbrev missed : List MissedParts
missed =
    record { first = 1704070800; last = 1704078000; count = 3; outcome = Lost; job = 1 }
    ∷ record { first = 1704078000; last = 1704078000; count = 1; outcome = MadeUp; job = 0 }
    ∷ []

-- the ends of the lines of jobs
abbrev ends : List EndParts
ends =
    record { text = codes "p.timer\tp.service\n"; delay = 0 } ∷ record { text = codes "q.timer\tq.service\n"; delay = 1800 } ∷ []

-- JSON in UTC
abbrev utc_json : Format
utc_json = record { json = true; local = None }

in_text :
    downtime_text utc_text ends missed
    ≡ codes "2024-01-01T01:00:00Z\t2024-01-01T03:00:00Z\t3\tlost\tq.timer\tq.service\n"
    ++ codes "2024-01-01T03:00:00Z\t2024-01-01T03:00:00Z\t1\tmade up\tp.timer\tp.service\n"
unfolding moment_text_of civil_fields year_and_day month_and_day digits
in_text = refl

in_json :
    downtime_text utc_json (record { text = codes ",\"job\":\"cron:2\",\"run\":\"warm\"}\n"; delay = 0 } ∷ [])
    (record { first = 1704081600; last = 1704081600; count = 1; outcome = AtBoot; job = 0 } ∷ [])
    ≡ codes "{\"first\":\"2024-01-01T04:00:00Z\",\"last\":\"2024-01-01T04:00:00Z\",\"starts\":1,"
    ++ codes "\"then\":\"at boot\",\"job\":\"cron:2\",\"run\":\"warm\"}\n"
unfolding moment_text_of civil_fields year_and_day month_and_day digits
in_json = refl
