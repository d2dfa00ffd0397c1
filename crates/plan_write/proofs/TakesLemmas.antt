-- What a writer takes in a loop that puts a text for each element of a list.
use Rattle.std.proofs.Common.{◌≡◌, ℕ, ◌+◌, ◌<◌, ◌≤◌, Bool, List, [], ◌∷◌, ◌++◌, length, take, get_or, Option, Some, ap, refl, take_all, append-nil}
use Rattle.std.specs.List.{flat_map}
use Rattle.std.specs.Prelude.{slice_get}
use Rattle.std.proofs.lemmas.Bool.{lt-ltb}
use Rattle.std.proofs.lemmas.List.{take_more}
use Rattle.std.proofs.lemmas.Grind.{flat_map-append}
use Rattle.plan_sets.specs.Limits.{end_second}
use Rattle.plan_collect.specs.Agenda.{IsInYears}
use Rattle.plan_streams.proofs.StreamLemmas.{takes_both}
use Rattle.plan_streams.specs.Writer.{Takes}
use Rattle.plan_streams.specs.declared.writer.TextWriter.{TextWriter}
use Rattle.plan_write.specs.Texts.{EndParts, line_of, lines_of}
use Rattle.plan_write.specs.Upcoming.{upcoming_text}
use Rattle.plan_write.specs.declared.formats.Format.{Format}
use Rattle.plan_write.proofs.QuietLemmas.{first_in_years}
use Rattle.std.proofs.Common.{arith}
use Rattle.std.proofs.lemmas.Bool.Decides.{nat_tests}
use Rattle.std.proofs.lemmas.Grind.{common_steps}

-- the texts of the elements so far, and then that of the next one
pub texts_more :
    {X : Type 0} (f : X → List ℕ) (xs : List X) (i : ℕ) (x d : X) → i < length xs → x ≡ get_or xs i d →
    flat_map f (take i xs) ++ f x ≡ flat_map f (take (i + 1) xs)
texts_more f xs i x d lt is = grind (arith, nat_tests, common_steps, append-nil, flat_map-append, take_more)

-- a turn of the loop
pub takes_more :
    {S X : Type 0} (holds : S → Option (List ℕ)) (takes_all : Bool) (a b c : TextWriter S) (f : X → List ℕ) (xs : List X) (i : ℕ) (x : X) →
    i < length xs → x ≡ get_or xs i x → Takes holds takes_all a b (flat_map f (take i xs)) → Takes holds takes_all b c (f x) →
    Takes holds takes_all a c (flat_map f (take (i + 1) xs))
takes_more holds takes_all a b c f xs i x lt is so_far next = grind (arith, nat_tests, common_steps, takes_both, texts_more)

-- after the loop the texts of all elements were taken
pub takes_whole :
    {S X : Type 0} (holds : S → Option (List ℕ)) (takes_all : Bool) (a b : TextWriter S) (f : X → List ℕ) (xs ys : List X) (i : ℕ) →
    length xs ≤ i → xs ≡ ys → Takes holds takes_all a b (flat_map f (take i xs)) → Takes holds takes_all a b (flat_map f ys)
takes_whole holds takes_all a b f xs ys i all same taken = grind (arith, nat_tests, take_all)

-- three texts that a writer took one after the other are one text
pub takes_three :
    {S : Type 0} (holds : S → Option (List ℕ)) (takes_all : Bool) (a b c d : TextWriter S) (first second third whole : List ℕ) →
    Takes holds takes_all a b first → Takes holds takes_all b c second → Takes holds takes_all c d third →
    first ++ (second ++ third) ≡ whole → Takes holds takes_all a d whole
takes_three holds takes_all a b c d first second third whole one two three is = grind (arith, nat_tests, common_steps, takes_both)

-- the lines of an agenda are those of next starts, since all of them are in the planner's years
pub lines_in_years :
    (format : Format) (delays : Bool) (entries : List (ℕ × ℕ)) (ends : List EndParts) → IsInYears entries →
    upcoming_text format delays entries ends ≡ lines_of format delays entries ends
lines_in_years format delays [] ends years = refl
lines_in_years format delays (entry ∷ entries) ends years =
    let (first, later) = first_in_years entry entries years in
    rw (lt-ltb entry.0 end_second first)
    (ap (λ text. line_of format delays (Some entry.0) (slice_get ends entry.1) ++ text) (lines_in_years format delays entries ends later))
