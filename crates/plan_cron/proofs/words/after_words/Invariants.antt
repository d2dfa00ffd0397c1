use denote.Shadow.{shadow}
use denote.Text.{Utf8}
use Rattle.std.proofs.Common.{◌≡◌}
use Rattle.plan_cron.specs.Words.{after_words}
use Rattle.plan_cron.proofs.words.after_words.Given as goal

-- as many words are cut off as there were turns, and the rest is text
abbrev pub invariant-loop : goal.invariant-loop
invariant-loop l = record {
  rest : l.rest ≡ after_words l.counter l.text;
  is_text : shadow (Utf8 l.rest);
}
