-- What a command runs (sh(1)), if each simple command whose value isn't known has some value.
use Rattle.std.specs.Prelude.{ℕ, ◌+◌, Bool, true, false, not, ◌||◌, if◌then◌else◌, List}
use Rattle.plan_shell.specs.declared.step.Property.{Property}
use Rattle.plan_shell.specs.Tree.{Shell, Look, Known, Effect, Not, Both, And, Or, If}
use Rattle.plan_idle.specs.declared.answer.Answer.{Answer}
use Rattle.plan_idle.specs.declared.answer.Answer.TheVariants.{Yes, No, Unknown, Acts}

-- what each property is found to be
abbrev pub Looks : Type 0
Looks = Property → List ℕ → Answer

-- whether a command's value is true, and whether a command with an effect ran
pub record Run : Type 0 where
  pub value : Bool
  pub acts : Bool

abbrev pub ran : Bool → Bool → Run
ran value acts = record { value = value; acts = acts }

-- the number of simple commands
abbrev pub size : Shell → ℕ
size (Look property subject) = 1
size (Known value) = 1
size Effect = 1
size (Not a) = size a
size (Both a b) = size a + size b
size (And a b) = size a + size b
size (Or a b) = size a + size b
size (If a b c) = size a + size b + size c

-- a command that looks at something: what isn't known has the value that is given
abbrev pub run_look : Answer → (value : Bool) → Run
run_look Yes value = ran true false
run_look No value = ran false false
run_look Unknown value = ran value false
run_look Acts value = ran value true

-- one command, and then another
abbrev pub then_run : Run → Run → Run
then_run first second = ran second.value (first.acts || second.acts)

-- what a command runs, if the simple commands have these values where theirs aren't known; `n` are before it
abbrev pub run : Looks → (values : ℕ → Bool) → (n : ℕ) → Shell → Run
run looks values n (Look property subject) = run_look (looks property subject) (values n)
run looks values n (Known value) = ran value false
run looks values n Effect = ran (values n) true
run looks values n (Not a) = ran (not (run looks values n a).value) (run looks values n a).acts
run looks values n (Both a b) = then_run (run looks values n a) (run looks values (n + size a) b)
run looks values n (And a b) =
    if (run looks values n a).value then then_run (run looks values n a) (run looks values (n + size a) b) else run looks values n a
run looks values n (Or a b) =
    if (run looks values n a).value then run looks values n a else then_run (run looks values n a) (run looks values (n + size a) b)
run looks values n (If a b c) =
    if (run looks values n a).value
    then then_run (run looks values n a) (run looks values (n + size a) b)
    else then_run (run looks values n a) (run looks values (n + (size a + size b)) c)
