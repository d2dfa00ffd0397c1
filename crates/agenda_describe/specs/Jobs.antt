-- The sentences of jobs (agenda).
use Rattle.std.specs.Prelude.{ℕ, ◌&&◌, Bool, true, false, if◌then◌else◌, List, [], ◌∷◌}
use Rattle.std.specs.Str.{bytes_eq}
use Rattle.plan_grammar.specs.EventZones.{Zones}
use Rattle.plan_match.specs.declared.rule.Rule.{Rule}
use Rattle.plan_match.specs.declared.rule.Rule.TheVariants as rule
use Rattle.plan_rules.specs.Job.{JobParts}
use Rattle.plan_rules.specs.declared.SourceKind.{SourceKind}
use Rattle.plan_rules.specs.declared.SourceKind.TheVariants.{Timer}
use Rattle.plan_write.specs.Texts.{run_text}
use Rattle.agenda_sources.specs.declared.Source.{Source}
use Rattle.agenda_describe.specs.Sentences.{crontab_sentence}
use Rattle.agenda_describe.specs.Timers.{timer_sentence}
use Rattle.agenda_describe.specs.declared.jobs.DescribedJob.{DescribedJob}

abbrev pub is_timer : SourceKind → Bool
is_timer Timer = true
is_timer other = false

-- a source is the timer with this name; the job of a timer has its name, and no other job has
abbrev pub is_timer_named : (name : List ℕ) → Source → Bool
is_timer_named name source = is_timer source.kind && bytes_eq source.name name

-- the bytes of the timer with a name, if there is one
abbrev pub bytes_of_timer : List Source → (name : List ℕ) → List ℕ
bytes_of_timer [] name = []
bytes_of_timer (source ∷ more) name = if is_timer_named name source then source.bytes else bytes_of_timer more name

-- the sentence of a rule; that of events is the one of their timer, by its bytes, which have the names of the zones
abbrev pub rule_sentence : Zones → (bytes : List ℕ) → Rule → List ℕ
rule_sentence zones bytes (rule.Events events) = timer_sentence zones bytes
rule_sentence zones bytes (rule.Cron cron) = crontab_sentence (rule.Cron cron)
rule_sentence zones bytes rule.Never = crontab_sentence rule.Never

-- the sentence of a job of these sources
abbrev pub job_sentence : Zones → List Source → JobParts → List ℕ
job_sentence zones sources job = rule_sentence zones (bytes_of_timer sources job.name) job.rule

-- a job of these sources, with its sentence
abbrev pub described : Zones → List Source → JobParts → DescribedJob
described zones sources job = record {
  name = job.name;
  rule = job_sentence zones sources job;
  user = job.user;
  command = job.command;
  runs = run_text job.user job.command;
}
