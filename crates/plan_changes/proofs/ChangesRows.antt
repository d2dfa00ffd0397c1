-- Worked rows of changes and of their text. They answer no goal of a function, but test the definitions.
use Rattle.std.proofs.Common.{◌≡◌, true, List, [], ◌∷◌, ◌++◌, None, refl}
use Rattle.std.specs.Prelude.{codes}
use Rattle.plan_sets.specs.Civil.{civil_fields, month_and_day, year_and_day}
use Rattle.plan_sets.specs.Moment.{moment_text_of}
use Rattle.plan_baseline.specs.Line.{Line}
use Rattle.plan_write.specs.Json.{json_byte}
use Rattle.plan_write.specs.Formats.{utc_text}
use Rattle.plan_write.specs.declared.formats.Format.{Format}
use Rattle.plan_changes.specs.declared.change.ChangeKind.TheVariants.{Added, Removed}
use Rattle.plan_changes.specs.Changes.{changes_of}
use Rattle.plan_changes.specs.Texts.{changes_text, start_members, text_members}

-- a job starts twice at one time, and another an hour later
abbrev before : List Line
before =
    record { second = 1704070800; job = codes "a:1"; runs = codes "x" }
    ∷ record { second = 1704070800; job = codes "a:2"; runs = codes "x" }
    ∷ record { second = 1704074400; job = codes "a:3"; runs = codes "y" }
    ∷ []

-- the first starts once, under another name, and the other an hour later than before
abbrev now : List Line
now =
    record { second = 1704070800; job = codes "a:7"; runs = codes "x" }
    ∷ record { second = 1704078000; job = codes "a:3"; runs = codes "y" }
    ∷ []

-- of equal starts the last ones are changes
removed :
    changes_of Removed now before
    ≡ record { second = 1704070800; kind = Removed; place = 1 } ∷ record { second = 1704074400; kind = Removed; place = 2 } ∷ []
removed = refl

added : changes_of Added before now ≡ record { second = 1704078000; kind = Added; place = 1 } ∷ []
added = refl

-- JSON in UTC
abbrev utc_json : Format
utc_json = record { json = true; local = None }

in_text :
    changes_text utc_text before now
    (record { second = 1704074400; kind = Removed; place = 2 } ∷ record { second = 1704078000; kind = Added; place = 1 } ∷ [])
    ≡ codes "-\t2024-01-01T02:00:00Z\ta:3\ty\n" ++ codes "+\t2024-01-01T03:00:00Z\ta:3\ty\n"
unfolding moment_text_of civil_fields year_and_day month_and_day
in_text = refl

in_json :
    changes_text utc_json before now (record { second = 1704074400; kind = Removed; place = 2 } ∷ [])
    ≡ codes "{\"change\":\"-\",\"start\":\"2024-01-01T02:00:00Z\",\"job\":\"a:3\",\"run\":\"y\"}\n"
unfolding start_members text_members moment_text_of civil_fields year_and_day month_and_day json_byte
in_json = refl
