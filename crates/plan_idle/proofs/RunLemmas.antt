-- What a command runs is among what it may run.
use Rattle.std.proofs.Common.{◌≡◌, ℕ, ◌+◌, Bool, true, false, not, ◌||◌, if◌then◌else◌, List, [], ◌∷◌, map, None, refl, sym, subst, ap, ◌∙◌, true≢false}
use Rattle.plan_shell.specs.declared.step.Step.{Step}
use Rattle.plan_shell.specs.declared.step.Step.TheVariants as step
use Rattle.plan_shell.specs.Tree.{Shell, Look, Known, Effect, Not, Both, And, Or, If, with_step, with_steps, top, tree_of}
use Rattle.plan_idle.specs.declared.answer.Answer.{Answer}
use Rattle.plan_idle.specs.declared.answer.Answer.TheVariants.{Yes, No, Unknown, Acts}
use Rattle.plan_idle.specs.declared.outcomes.Outcomes.{Outcomes}
use Rattle.plan_shell.specs.declared.step.Property.{Property}
use Rattle.plan_idle.specs.Outcomes.{after_false, after_true, and_outcomes, both, either, if_outcomes, known, looked_at, not_outcomes, or_outcomes, outcomes}
use Rattle.plan_idle.specs.Gathered.{Gathered, gathered_of, top_gathered, weighed, weighed_all}
use Rattle.plan_idle.specs.Scripts.{directories}
use Rattle.plan_idle.specs.Run.{Looks, Run, ran, run, run_look, size, then_run}

-- what ran is among what may run
pub record Covers (o : Outcomes) (r : Run) : Type 0 where
  pub true_part : r.value ≡ true → o.may_be_true ≡ true
  pub false_part : r.value ≡ false → o.may_be_false ≡ true
  pub acts : r.acts ≡ true → o.may_act ≡ true

or_left : (x y : Bool) → x ≡ true → (x || y) ≡ true
or_left x y h = rw h refl

or_right : (x y : Bool) → y ≡ true → (x || y) ≡ true
or_right true y h = refl
or_right false y h = h

or_both : (x y u v : Bool) → (x ≡ true → u ≡ true) → (y ≡ true → v ≡ true) → (x || y) ≡ true → (u || v) ≡ true
or_both true y u v first second h = or_left u v (first refl)
or_both false y u v first second h = or_right u v (second h)

both_covered : (a b : Outcomes) (r s : Run) → Covers a r → Covers b s → Covers (both a b) (then_run r s)
both_covered a b r s first second = record {
  true_part = second.true_part;
  false_part = second.false_part;
  acts = or_both r.acts s.acts a.may_act b.may_act first.acts second.acts;
}

left_covered : (a b : Outcomes) (r : Run) → Covers a r → Covers (either a b) r
left_covered a b r first = record {
  true_part = λ h. or_left a.may_be_true b.may_be_true (first.true_part h);
  false_part = λ h. or_left a.may_be_false b.may_be_false (first.false_part h);
  acts = λ h. or_left a.may_act b.may_act (first.acts h);
}

right_covered : (a b : Outcomes) (r : Run) → Covers b r → Covers (either a b) r
right_covered a b r second = record {
  true_part = λ h. or_right a.may_be_true b.may_be_true (second.true_part h);
  false_part = λ h. or_right a.may_be_false b.may_be_false (second.false_part h);
  acts = λ h. or_right a.may_act b.may_act (second.acts h);
}

not_covered_at : (value : Bool) (a : Outcomes) (acts : Bool) → Covers a (ran value acts) → Covers (not_outcomes a) (ran (not value) acts)
not_covered_at true a acts first = record { true_part = λ h. cc; false_part = λ h. first.true_part refl; acts = first.acts }
not_covered_at false a acts first = record { true_part = λ h. first.false_part refl; false_part = λ h. cc; acts = first.acts }

-- `a && b`
and_covered_at : (value : Bool) (a b : Outcomes) (acts : Bool) (s : Run) → Covers a (ran value acts) → Covers b s
    → Covers (and_outcomes a b) (if value then then_run (ran value acts) s else ran value acts)
and_covered_at true a b acts s first second =
    let P : Bool → Type 0 = λ may. Covers (if may then after_true a b else a) (then_run (ran true acts) s) in
    subst P (sym (first.true_part refl)) (record {
      true_part = second.true_part;
      false_part = λ h. or_right a.may_be_false b.may_be_false (second.false_part h);
      acts = or_both acts s.acts a.may_act b.may_act first.acts second.acts;
    })
and_covered_at false a b acts s first second =
    elim a.may_be_true as (λ may. Covers (if may then after_true a b else a) (ran false acts)) [
      | true ↦ record {
        true_part = λ h. cc;
        false_part = λ h. or_left a.may_be_false b.may_be_false (first.false_part refl);
        acts = λ h. or_left a.may_act b.may_act (first.acts h);
      }
      | false ↦ first
    ]

-- `a || b`
or_covered_at : (value : Bool) (a b : Outcomes) (acts : Bool) (s : Run) → Covers a (ran value acts) → Covers b s
    → Covers (or_outcomes a b) (if value then ran value acts else then_run (ran value acts) s)
or_covered_at false a b acts s first second =
    let P : Bool → Type 0 = λ may. Covers (if may then after_false a b else a) (then_run (ran false acts) s) in
    subst P (sym (first.false_part refl)) (record {
      true_part = λ h. or_right a.may_be_true b.may_be_true (second.true_part h);
      false_part = second.false_part;
      acts = or_both acts s.acts a.may_act b.may_act first.acts second.acts;
    })
or_covered_at true a b acts s first second =
    elim a.may_be_false as (λ may. Covers (if may then after_false a b else a) (ran true acts)) [
      | true ↦ record {
        true_part = λ h. or_left a.may_be_true b.may_be_true (first.true_part refl);
        false_part = λ h. cc;
        acts = λ h. or_left a.may_act b.may_act (first.acts h);
      }
      | false ↦ first
    ]

-- `if a; then b; else c; fi`
if_covered_at : (value : Bool) (a b c : Outcomes) (acts : Bool) (s u : Run) → Covers a (ran value acts) → Covers b s → Covers c u
    → Covers (if_outcomes a b c) (if value then then_run (ran value acts) s else then_run (ran value acts) u)
if_covered_at true a b c acts s u first second third =
    let P : Bool → Type 0 =
    λ may. Covers (if may then (if a.may_be_false then both a (either b c) else both a b) else both a c) (then_run (ran true acts) s) in
    subst P (sym (first.true_part refl))
    (elim a.may_be_false as (λ may. Covers (if may then both a (either b c) else both a b) (then_run (ran true acts) s)) [
      | true ↦ both_covered a (either b c) (ran true acts) s first (left_covered b c s second)
      | false ↦ both_covered a b (ran true acts) s first second
    ])
if_covered_at false a b c acts s u first second third =
    let P : Bool → Type 0 =
    λ may. Covers (if a.may_be_true then (if may then both a (either b c) else both a b) else both a c) (then_run (ran false acts) u) in
    subst P (sym (first.false_part refl))
    (elim a.may_be_true as (λ may. Covers (if may then both a (either b c) else both a c) (then_run (ran false acts) u)) [
      | true ↦ both_covered a (either b c) (ran false acts) u first (right_covered b c u third)
      | false ↦ both_covered a c (ran false acts) u first third
    ])

-- a value that is known is the one that is found, and nothing acts
abbrev pub fits : (known found : Answer) → Bool
fits Yes Yes = true
fits No No = true
fits Unknown Yes = true
fits Unknown No = true
fits Unknown Unknown = true
fits known found = false

-- what may act may be anything
abbrev pub may_find : (known found : Answer) → Bool
may_find Acts found = true
may_find known found = fits known found

known_covered : (property : Property) (subject : List ℕ) (answer found : Answer) (value : Bool) → may_find answer found ≡ true
    → Covers (looked_at property subject answer) (run_look found value)
known_covered property subject Yes Yes value is = record { true_part = λ h. refl; false_part = λ h. cc; acts = λ h. cc }
known_covered property subject No No value is = record { true_part = λ h. cc; false_part = λ h. refl; acts = λ h. cc }
known_covered property subject Unknown Yes value is = record { true_part = λ h. refl; false_part = λ h. refl; acts = λ h. cc }
known_covered property subject Unknown No value is = record { true_part = λ h. refl; false_part = λ h. refl; acts = λ h. cc }
known_covered property subject Unknown Unknown value is = record { true_part = λ h. refl; false_part = λ h. refl; acts = λ h. cc }
known_covered property subject Acts found value is = record { true_part = λ h. refl; false_part = λ h. refl; acts = λ h. refl }
known_covered property subject answer found value is = absurd (true≢false (sym is))

constant_covered : (value : Bool) → Covers (known value None) (ran value false)
constant_covered true = record { true_part = λ h. refl; false_part = λ h. cc; acts = λ h. cc }
constant_covered false = record { true_part = λ h. cc; false_part = λ h. refl; acts = λ h. cc }

-- what a command runs is among what it may run, whatever the values are that aren't known, if it finds what is known
pub covered : (looks found : Looks) → ((property : Property) (subject : List ℕ) → may_find (looks property subject) (found property subject) ≡ true)
    → (values : ℕ → Bool) (n : ℕ) (tree : Shell) → Covers (outcomes looks tree) (run found values n tree)
covered looks found fit values n (Look property subject) =
    known_covered property subject (looks property subject) (found property subject) (values n) (fit property subject)
covered looks found fit values n (Known value) = constant_covered value
covered looks found fit values n Effect = record { true_part = λ h. refl; false_part = λ h. refl; acts = λ h. refl }
covered looks found fit values n (Not a) =
    not_covered_at (run found values n a).value (outcomes looks a) (run found values n a).acts (covered looks found fit values n a)
covered looks found fit values n (Both a b) =
    both_covered (outcomes looks a) (outcomes looks b) (run found values n a) (run found values (n + size a) b)
    (covered looks found fit values n a) (covered looks found fit values (n + size a) b)
covered looks found fit values n (And a b) =
    and_covered_at (run found values n a).value (outcomes looks a) (outcomes looks b) (run found values n a).acts (run found values (n + size a) b)
    (covered looks found fit values n a) (covered looks found fit values (n + size a) b)
covered looks found fit values n (Or a b) =
    or_covered_at (run found values n a).value (outcomes looks a) (outcomes looks b) (run found values n a).acts (run found values (n + size a) b)
    (covered looks found fit values n a) (covered looks found fit values (n + size a) b)
covered looks found fit values n (If a b c) =
    if_covered_at (run found values n a).value (outcomes looks a) (outcomes looks b) (outcomes looks c) (run found values n a).acts
    (run found values (n + size a) b) (run found values (n + (size a + size b)) c)
    (covered looks found fit values n a) (covered looks found fit values (n + size a) b) (covered looks found fit values (n + (size a + size b)) c)

stays : (acts : Bool) (may : Bool) → (acts ≡ true → may ≡ true) → may ≡ false → acts ≡ false
stays true may among never = absurd (let h : true ≡ false = sym (among refl) ∙ never in cc)
stays false may among never = refl

-- a command that may run nothing runs nothing, if it finds what is known
pub idle_runs_none : (looks found : Looks) → ((property : Property) (subject : List ℕ) → may_find (looks property subject) (found property subject) ≡ true)
    → (values : ℕ → Bool) (tree : Shell) → (outcomes looks tree).may_act ≡ false → (run found values 0 tree).acts ≡ false
idle_runs_none looks found fit values tree never =
    stays (run found values 0 tree).acts (outcomes looks tree).may_act (covered looks found fit values 0 tree).acts never

pub self_found : (answer : Answer) → may_find answer answer ≡ true
self_found Yes = refl
self_found No = refl
self_found Unknown = refl
self_found Acts = refl

pub idle_runs_nothing : (looks : Looks) (values : ℕ → Bool) (tree : Shell) → (outcomes looks tree).may_act ≡ false
    → (run looks values 0 tree).acts ≡ false
idle_runs_nothing looks = idle_runs_none looks looks (λ property subject. self_found (looks property subject))

-- ---- the steps of a command

weighed_is : (looks : Looks) (step : Step) (trees : List Shell)
    → map (gathered_of looks) (with_step step trees) ≡ weighed looks step (map (gathered_of looks) trees)
weighed_is looks (step.Look property subject) trees = refl
weighed_is looks (step.Known value) trees = refl
weighed_is looks step.Effect trees = refl
weighed_is looks step.Not [] = refl
weighed_is looks step.Not (a ∷ trees) = refl
weighed_is looks step.Both [] = refl
weighed_is looks step.Both (b ∷ []) = refl
weighed_is looks step.Both (b ∷ a ∷ trees) = refl
weighed_is looks step.And [] = refl
weighed_is looks step.And (b ∷ []) = refl
weighed_is looks step.And (b ∷ a ∷ trees) = refl
weighed_is looks step.Or [] = refl
weighed_is looks step.Or (b ∷ []) = refl
weighed_is looks step.Or (b ∷ a ∷ trees) = refl
weighed_is looks step.If [] = refl
weighed_is looks step.If (c ∷ []) = refl
weighed_is looks step.If (c ∷ b ∷ []) = refl
weighed_is looks step.If (c ∷ b ∷ a ∷ trees) = refl

all_weighed : (looks : Looks) (steps : List Step) (trees : List Shell)
    → map (gathered_of looks) (with_steps steps trees) ≡ weighed_all looks steps (map (gathered_of looks) trees)
all_weighed looks [] trees = refl
all_weighed looks (step ∷ steps) trees =
    all_weighed looks steps (with_step step trees) ∙ ap (weighed_all looks steps) (weighed_is looks step trees)

top_is : (looks : Looks) (trees : List Shell) → gathered_of looks (top trees) ≡ top_gathered (map (gathered_of looks) trees)
top_is looks [] = refl
top_is looks (tree ∷ trees) = refl

steps_weighed : (looks : Looks) (steps : List Step) → gathered_of looks (tree_of steps) ≡ top_gathered (weighed_all looks steps [])
steps_weighed looks steps = top_is looks (with_steps steps []) ∙ ap top_gathered (all_weighed looks steps [])

-- what the steps of a command may run is what their tree may run
pub outcomes_weighed : (looks : Looks) (steps : List Step) → outcomes looks (tree_of steps) ≡ (top_gathered (weighed_all looks steps [])).outcomes
outcomes_weighed looks steps = ap (λ (g : Gathered). g.outcomes) (steps_weighed looks steps)

-- and so are the directories of their `run-parts` commands
pub directories_weighed : (looks : Looks) (steps : List Step) → directories looks (tree_of steps) ≡ (top_gathered (weighed_all looks steps [])).dirs
directories_weighed looks steps = ap (λ (g : Gathered). g.dirs) (steps_weighed looks steps)
