-- The law is proved of the definitions.
use Rattle.plan_words.proofs.SentenceLemmas.{reads_back, differ}
use Rattle.plan_words.proofs.law.sentences_differ.Goals as goal

pub returns : goal.returns
returns c = record { reads = reads_back; differ = differ }
