-- What is said in words of a rule, or of jobs. All of it is our choice (agenda).
use Rattle.std.specs.Prelude.{ℕ, Bool, List, chars, length, map, Result, Ok}
use Rattle.plan_grammar.specs.EventZones.{Zones}
use Rattle.plan_rules.specs.Job.{JobParts}
use Rattle.plan_texts.specs.Steps.{◌>>=◌}
use Rattle.agenda_describe.specs.Jobs.{described}
use Rattle.agenda_describe.specs.Sentences.{asked_sentence}
use Rattle.agenda_describe.specs.Texts.{description_rows, descriptions_text, jobs_text, sentence_text}
use Rattle.agenda_describe.specs.declared.jobs.DescribedJob.{DescribedJob}
use Rattle.agenda_faults.specs.declared.faults.RunFault.{RunFault}
use Rattle.agenda_faults.specs.Faults.{fault_of_rule}
use Rattle.agenda_sources.specs.declared.Asked.{Asked}
use Rattle.agenda_sources.specs.declared.Source.{Source}
use Rattle.agenda_sources.specs.declared.TimeZones.{TimeZones}
use Rattle.agenda_table.specs.Layout.{table_text}
use Rattle.agenda_commands.specs.Command.{step}
use Rattle.agenda_commands.specs.declared.prepare.Form.{Form}
use Rattle.agenda_commands.specs.declared.prepare.Form.TheVariants as form

-- what `describe` writes of a rule that is given by itself
abbrev pub sentence_output : Zones → Asked → (json : Bool) → Result (List ℕ) RunFault
sentence_output zones asked json = do
  sentence ← step fault_of_rule (asked_sentence zones asked)
  Ok (sentence_text json sentence)

-- the descriptions of jobs in a form
abbrev pub described_text : Form → List DescribedJob → List ℕ
described_text (form.Lines format) jobs = descriptions_text format.json jobs
described_text (form.Table table) jobs =
    table_text table.frame.columns table.frame.terminal (description_rows jobs) (chars (jobs_text (length jobs) table.zone.name))

-- what `describe` writes of the jobs of sources, or their first error
abbrev pub description_output : Form → TimeZones → List Source → Result (List JobParts) RunFault → Result (List ℕ) RunFault
description_output form zones sources jobs = do
  listed ← jobs
  Ok (described_text form (map (described zones.timers.zones sources) listed))
