use Rattle.std.proofs.Common.{Ok, Err, ap, refl}
use Rattle.std.proofs.KnownBytes.{Keeps-refl}
use Rattle.agenda_faults.specs.declared.faults.Failure.TheVariants.{Usage, Run}
use Rattle.agenda_faults.specs.declared.faults.RunFault.TheVariants as run
use Rattle.agenda_answers.proofs.answers.decline.Goals as goal

pub returns-in-Ok-clause-ends : goal.returns-in-Ok-clause-ends
returns-in-Ok-clause-ends g c =
    rw c.in-Help.is (record {
      end = Ok (record { text = c.in-Help.text; status = 0 });
      ends = refl;
      puts = (refl, rw (c.as_bytes.ensures.value, c.as_str.ensures) at c.in-Ok.ensures.text);
    })

pub returns-in-Help-clause-ends : goal.returns-in-Help-clause-ends
returns-in-Help-clause-ends g c =
    rw c.in-Help.is (record {
      end = Ok (record { text = c.in-Help.text; status = 0 });
      ends = refl;
      puts = (_, ap Run c.from.ensures, rw (c.as_bytes.ensures.value, c.as_str.ensures) at c.in-Err.ensures.text);
    })

pub returns-in-Usage-clause-ends : goal.returns-in-Usage-clause-ends
returns-in-Usage-clause-ends g c = rw c.in-Usage.is (record { end = Err (Usage c.in-Usage.text); ends = refl; puts = (refl, Keeps-refl _) })

pub returns-clause-ends : goal.returns-clause-ends
returns-clause-ends g c = rw c.in-NoMemory.is (record { end = Err (Run run.NoMemory); ends = refl; puts = (refl, Keeps-refl _) })
