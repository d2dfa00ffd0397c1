-- What a timer's file doesn't say, but its machine does (systemd-system.conf(5), systemd.time(7)).
use Rattle.std.specs.Prelude.{ℕ, List}
use Rattle.plan_grammar.specs.EventZones.{Zones}
use Rattle.plan_rules.specs.TimerOptions.{Setting, default_options, delay_seconds, options_with}
use Rattle.plan_rules.specs.declared.timer_options.TimerOptions.{TimerOptions}
use Rattle.plan_check.specs.declared.context.TimerContext.{TimerContext}

-- the context of timers whose events may name these zones, without any configuration (systemd-system.conf(5))
abbrev pub context_of : Zones → TimerContext
context_of zones = record { zones = zones; accuracy = default_options.accuracy }

-- the options of a timer without any setting, if timers that set none have this accuracy (systemd-system.conf(5),
-- `DefaultTimerAccuracySec=`)
abbrev pub options_by : (accuracy : ℕ) → TimerOptions
options_by accuracy = record default_options { accuracy = accuracy }

-- the options of a timer with these settings
abbrev pub options_in : TimerContext → List Setting → TimerOptions
options_in context settings = options_with (options_by context.accuracy) settings

-- its delay, in seconds
abbrev pub delay_in : TimerContext → List Setting → ℕ
delay_in context settings = delay_seconds (options_in context settings)
