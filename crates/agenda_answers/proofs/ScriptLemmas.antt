-- A script of which only the first bytes were read, up to one more than the limit, means what the whole file means.
-- Up to the limit, all bytes were read. Past it both are too large, with `script_reading` unfolded.
use Rattle.std.proofs.Common.{◌≡◌, ℕ, Bool, ◌≤◌, ◌<◌, true, List, length, take, nat_lt, Option, None, Some, Result, Ok, Err, refl, sym, ap, ◌∙◌, arith, take_all, length-take-le, ⊎_elim}
use Rattle.std.proofs.lemmas.Bool.{lt-ltb, cases_lt}
use Rattle.plan_texts.specs.declared.lines.TheConstants.{MOST_BYTES}
use Rattle.agenda_script.specs.declared.fault.ScriptCause.TheVariants.{TooLarge}
use Rattle.agenda_script.specs.Script.{script_reading, fault_on}
use Rattle.agenda_faults.specs.declared.faults.RunFault.TheVariants as run
use Rattle.agenda_faults.specs.declared.faults.Failure.{Failure}
use Rattle.agenda_faults.specs.declared.faults.Failure.TheVariants.{Run}
use Rattle.agenda_answers.specs.Answer.{Leaves, Printed, prints, steps_ends}
use Rattle.agenda_inputs.specs.Files.{Held, most_read, IsFrontOf, IsHeld}
use Rattle.agenda_inputs.specs.Steps.{goes}
use Rattle.agenda_commands.specs.Script.{IsTextOfRun, RejectsRun}

-- a script with more bytes than the limit is too large, whatever its bytes are
too_large : (bytes : List ℕ) → most_read ≤ length bytes → script_reading bytes ≡ fault_on 0 TooLarge
unfolding script_reading
too_large bytes more = let many : nat_lt MOST_BYTES (length bytes) ≡ true = lt-ltb _ _ (omega arith) in rw many refl

script_reading-take : (bytes : List ℕ) → script_reading (take most_read bytes) ≡ script_reading bytes
script_reading-take bytes =
    ⊎_elim (λ (few : length bytes < most_read). ap script_reading (take_all most_read bytes (omega arith)))
    (λ (more : most_read ≤ length bytes). too_large (take most_read bytes) (omega (arith, length-take-le most_read bytes more)) ∙
    sym (too_large bytes more))
    (cases_lt (length bytes) most_read)

-- the whole file, if it is known, means what was read
whole_script :
    (held : Option (List ℕ)) (bytes : List ℕ) → IsFrontOf held most_read bytes →
    (script : List ℕ) × IsHeld held script × (script_reading script ≡ script_reading bytes)
whole_script None bytes front = (bytes, tt, refl)
whole_script (Some whole) bytes front = (whole, refl, sym (script_reading-take whole) ∙ ap script_reading (sym front))

-- what a run ends with depends only on the script's meaning
run_whole :
    (bytes script : List ℕ) (end : Result Printed Failure) → script_reading script ≡ script_reading bytes →
    prints 0 (IsTextOfRun bytes) (RejectsRun bytes) end → prints 0 (IsTextOfRun script) (RejectsRun script) end
run_whole bytes script (Ok printed) same ((meaning, replies, reads, many, turn, lawful, is), zero) =
    ((meaning, replies, same ∙ reads, many, turn, lawful, is), zero)
run_whole bytes script (Err (Run (run.Script fault))) same reads = same ∙ reads
run_whole bytes script (Err (Run run.NoMemory)) same failed = tt
run_whole bytes script (Err (Run other)) same none = absurd none
run_whole bytes script (Err other) same none = absurd none

-- what a run of a file's first bytes leaves is what `steps` leaves
pub steps_left :
    (held : Held) (file bytes : List ℕ) (takes_all : Bool) (done : Result ℕ Failure) (old new : Option (List ℕ)) →
    IsFrontOf (held file).bytes most_read bytes → Leaves takes_all (prints 0 (IsTextOfRun bytes) (RejectsRun bytes)) done old new →
    Leaves takes_all (steps_ends held file) done old new
steps_left held file bytes takes_all done old new front left =
    let (script, whole, means) = whole_script (held file).bytes bytes front in
    record { end = left.end; ends = goes script whole (run_whole bytes script left.end means left.ends); puts = left.puts }
