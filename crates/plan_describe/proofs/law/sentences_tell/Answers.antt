-- Different descriptions have different sentences, and equal ones match alike.
use Rattle.plan_describe.proofs.SentenceLemmas.{cron_sentences, event_sentences}
use Rattle.plan_describe.proofs.law.sentences_tell.Goals as goal

pub returns : goal.returns
returns c = record {
  crons = cron_sentences c.sentences_differ.ensures.differ;
  events = event_sentences c.sentences_differ.ensures.differ;
}
