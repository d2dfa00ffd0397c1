-- The pieces are the digits of the fields.
use Rattle.std.proofs.Common.{refl}
use Rattle.plan_sets.specs.Moment.{moment_text_of}
use Rattle.plan_sets.proofs.moment.moment_text.Goals as goal

pub returns : goal.returns
unfolding moment_text_of
returns c =
    rw (
      ← c.fields_of-fields.ensures.fields,
      c.digits.ensures,
      c.digits-2.ensures,
      c.digits-3.ensures,
      c.digits-4.ensures,
      c.digits-5.ensures,
      c.digits-6.ensures,
      c.digits-7.ensures,
    ) refl
