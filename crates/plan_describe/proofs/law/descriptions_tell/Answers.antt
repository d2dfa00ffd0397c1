-- The laws are proved of the definitions.
use Rattle.plan_describe.proofs.RuleLemmas.{cron_means, event_means}
use Rattle.plan_describe.proofs.FormLemmas.{cron_form, event_form}
use Rattle.plan_describe.proofs.law.descriptions_tell.Goals as goal

pub returns : goal.returns
returns c = record { crons = cron_means; events = event_means; cron_forms = cron_form; event_forms = event_form }
