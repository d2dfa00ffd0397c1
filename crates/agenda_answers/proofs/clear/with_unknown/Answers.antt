use Rattle.std.proofs.Common.{refl}
use Rattle.agenda_answers.proofs.clear.with_unknown.Goals as goal

pub returns : goal.returns
returns c =
    rw (
      c.new-2.ensures,
      c.in_ok-push_str-6.ensures.bytes,
      c.in_ok-push_str-5.ensures.bytes,
      c.in_ok-push_str-4.ensures.bytes,
      c.in_ok-push_str-3.ensures.bytes,
      c.in_ok-push_str-2.ensures.bytes,
      c.in_ok-push_str.ensures.bytes,
      c.in_ok-text.ensures,
      c.format.ensures.text,
      c.jobs_words.ensures,
    ) refl
