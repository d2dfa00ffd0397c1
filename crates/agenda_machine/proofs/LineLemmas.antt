-- A line that a writer takes in five parts.
use Rattle.std.proofs.Common.{ℕ, Bool, List, ◌++◌, Option, refl}
use Rattle.plan_streams.proofs.StreamLemmas.{takes_both}
use Rattle.plan_streams.specs.Writer.{Takes}
use Rattle.plan_streams.specs.declared.writer.TextWriter.{TextWriter}

pub takes_five :
    {S : Type 0} (holds : S → Option (List ℕ)) (takes_all : Bool) (a b c d e f : TextWriter S) (one two three four five : List ℕ) →
    Takes holds takes_all a b one → Takes holds takes_all b c two → Takes holds takes_all c d three →
    Takes holds takes_all d e four → Takes holds takes_all e f five →
    Takes holds takes_all a f (one ++ (two ++ (three ++ (four ++ five))))
takes_five holds takes_all a b c d e f one two three four five first second third fourth fifth =
    takes_both holds takes_all a b f one (two ++ (three ++ (four ++ five))) (one ++ (two ++ (three ++ (four ++ five)))) first
    (takes_both holds takes_all b c f two (three ++ (four ++ five)) (two ++ (three ++ (four ++ five))) second
    (takes_both holds takes_all c d f three (four ++ five) (three ++ (four ++ five)) third
    (takes_both holds takes_all d e f four five (four ++ five) fourth fifth refl) refl) refl) refl
