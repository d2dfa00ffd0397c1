-- What the worked rows unfold to compute.
use Rattle.std.specs.Prelude.{⊤}
use Rattle.std.specs.Fmt.{digits}
use Rattle.std.specs.Str.{chars, is_utf8}
use Rattle.jiff_core.specs.Calendar.{day_count, days_from_civil, days_of_months, days_of_years}
use Rattle.plan_sets.specs.Civil.{civil_fields, month_and_day, year_and_day}
use Rattle.plan_sets.specs.Items.{set_reading}
use Rattle.plan_texts.specs.Lines.{cut_word, lines}
use Rattle.plan_texts.specs.Text.{cut_at, decimal_number, words}
use Rattle.plan_texts.specs.WholeLines.{whole_lines}
use Rattle.plan_spans.specs.Spans.{number_in_front, pair_in_front, sum_of_pairs, time_span, unit_in_front}
use Rattle.plan_grammar.specs.Cron.{at_reading, field_reading, fields_in_front, five_fields, item_reading, items_reading, rule_in_front, rule_reading, side_reading, step_reading, value_reading}
use Rattle.plan_grammar.specs.EventZones.{zone_clock}
use Rattle.plan_grammar.specs.Event.{component_item, component_items, component_number, component_reading, component_side, component_value, event_of, expression_of, places_reading, spelled_out, weekday_item, weekday_items, weekday_of, weekday_reading, weekdays_reading, words_reading, zone_cut, zoneless}
use Rattle.plan_grammar.specs.Shape.{date_reading, dated, shape_reading, time_reading}
use Rattle.plan_rules.specs.Crontab.{entries_of_lines, job_reading, line_reading, what_reading}
use Rattle.plan_rules.specs.Timer.{effect_of, is_timer_file, is_timer_name, section_name, setting_of, user_and_file}
use Rattle.plan_times.specs.Days.{date_of, dated_weekday, day_of, weekday_of as named_weekday}
use Rattle.plan_times.specs.Forms.{counted, form_of, local_of, marked, offset_second, timestamp_of, whole_seconds, worded}
use Rattle.plan_times.specs.Parts.{cut_at_t, cut_last_word, number_of}
use Rattle.plan_times.specs.TimesOfDay.{hour_of, minutes_of, offset_digits, offset_of_text, time_of_day}

-- the civil fields of a second
unfoldable pub on_civil : ⊤
unfolding civil_fields year_and_day month_and_day
on_civil = tt

-- the rule of a text (crontab(5))
unfoldable pub on_cron : ⊤
unfolding rule_reading cut_word fields_in_front cut_at decimal_number set_reading at_reading five_fields field_reading items_reading
    item_reading side_reading value_reading step_reading
on_cron = tt

-- the event of a text (systemd.time(7))
unfoldable pub on_events : ⊤
unfolding words cut_at decimal_number set_reading date_reading time_reading dated shape_reading component_number component_value
    component_side component_item component_items places_reading component_reading weekday_of weekday_reading weekday_item
    weekday_items weekdays_reading event_of spelled_out zone_clock zone_cut expression_of zoneless words_reading
on_events = tt

-- the jobs of a crontab
unfoldable pub on_crontabs : ⊤
unfolding on_cron is_utf8 chars lib.Utf8.encode digits lines rule_in_front what_reading job_reading line_reading entries_of_lines
on_crontabs = tt

-- the job of a timer file
unfoldable pub on_timers : ⊤
unfolding on_events is_utf8 chars lib.Utf8.encode lines whole_lines is_timer_file is_timer_name user_and_file section_name setting_of effect_of
on_timers = tt

-- the form of the text of a time (systemd.time(7))
unfoldable pub on_times : ⊤
unfolding form_of marked worded cut_last_word cut_at_t timestamp_of offset_second offset_of_text offset_digits time_of_day minutes_of
    hour_of local_of day_of dated_weekday named_weekday date_of number_of cut_at decimal_number counted whole_seconds time_span
    sum_of_pairs pair_in_front number_in_front unit_in_front days_from_civil day_count days_of_years days_of_months
on_times = tt
