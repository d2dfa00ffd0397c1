-- A text that a writer takes in parts: for the loop of `write_bytes`. `IsPartWritten` says how many bytes the writer
-- took. What was written and what remains are cut at that place, which each write moves on by the bytes that it took.
-- From `prefix_after` on, for a `TextWriter`: what it took is what was written and then what waits.
use Rattle.std.proofs.Common.{◌≡◌, ℕ, ◌+◌, ◌-◌, ◌≤◌, refl, List, [], ◌++◌, length, take, drop, Option, Result, Ok, Err, Bool, ap, sym, subst, ◌∙◌, arith, append_assoc, append-nil, take_all, length-append, length-drop}
use Rattle.std.proofs.Math.Seq.{take-add, take-append-add}
use Rattle.std.proofs.lemmas.List.{drop-drop, take-append-le}
use Rattle.std.proofs.KnownBytes.{Appends-trans}
use Rattle.std.specs.Io.KnownBytes.{Appends}
use Rattle.plan_streams.specs.Stream.{AppendsPrefix, AppendsAllBut, Puts, PutsAllBut}
use Rattle.plan_streams.specs.Writer.{HasTaken, Takes}
use Rattle.plan_streams.specs.declared.writer.TextWriter.{TextWriter}

-- the first k bytes of the text were written, and the rest remains
pub record IsWrittenTo (old new : Option (List ℕ)) (text rest : List ℕ) (k : ℕ) : Type 0 where
  pub within : k ≤ length text
  pub left : rest ≡ drop k text
  pub front : Appends old new (take k text)

abbrev pub IsPartWritten : Option (List ℕ) → Option (List ℕ) → List ℕ → List ℕ → Type 0
IsPartWritten old new text rest = (k : ℕ) × IsWrittenTo old new text rest k

-- a write took n bytes of the rest
pub part_written_more :
    (a b c : Option (List ℕ)) (text rest : List ℕ) (n : ℕ) → IsPartWritten a b text rest → n ≤ length rest →
    Appends b c (take n rest) → IsPartWritten a c text (take (length rest - n) (drop n rest))
part_written_more a b c text rest n (k, so_far) most more =
    let long : length rest ≡ length text - k = ap length so_far.left ∙ length-drop k text in
    let within : k ≤ length text = so_far.within in
    let all : take (length rest - n) (drop n rest) ≡ drop n rest = take_all (length rest - n) (drop n rest)
    (omega (arith, length-drop n rest)) in
    let front : take n rest ≡ take n (drop k text) = ap (take n) so_far.left in (
      k + n,
      record {
        within = omega arith;
        left = all ∙ ap (drop n) so_far.left ∙ drop-drop n k text;
        front = rw (take-add k n text) (Appends-trans a b c (take k text) (take n (drop k text)) so_far.front
            (subst (Appends b c) front more));
      },
    )

-- what was written before, and then a part of a text
prefix_after :
    (a b c : Option (List ℕ)) (front text : List ℕ) → Appends a b front → AppendsPrefix b c text → AppendsPrefix a c (front ++ text)
prefix_after a b c front text first (k, few, second) =
    let both : take (length front + k) (front ++ text) ≡ front ++ take k text = take-append-add front text k in
    (length front + k, omega (arith, length-append front text), rw both (Appends-trans a b c front (take k text) first second))

puts_last :
    {E : Type 0} (takes_all : Bool) (r : Result (Unit {0}) E) (a b c : Option (List ℕ)) (text waiting : List ℕ) →
    AppendsAllBut a b text waiting → Puts takes_all r b c waiting → Puts takes_all r a c text
puts_last takes_all (Ok done) a b c text waiting so_far last =
    subst (Appends a c) (sym so_far.all) (Appends-trans a b c so_far.front waiting so_far.written last)
puts_last takes_all (Err e) a b c text waiting so_far (fails, last) =
    (fails, subst (AppendsPrefix a c) (sym so_far.all) (prefix_after a b c so_far.front waiting so_far.written last))

-- if what waited is put, all of the text is
pub puts_rest :
    {E : Type 0} (takes_all : Bool) (state r : Result (Unit {0}) E) (done : Unit {0}) (a b c : Option (List ℕ)) (text waiting : List ℕ) →
    state ≡ Ok done → Puts takes_all r b c waiting → PutsAllBut takes_all state a b text waiting → Puts takes_all r a c text
puts_rest takes_all state r done a b c text waiting ok last before =
    puts_last takes_all r a b c text waiting (subst (λ state. PutsAllBut takes_all state a b text waiting) ok before) last

-- if all of a text is put, nothing of it waits
pub none_waits :
    {E : Type 0} (takes_all : Bool) (r : Result (Unit {0}) E) (a c : Option (List ℕ)) (text : List ℕ) → Puts takes_all r a c text →
    PutsAllBut takes_all r a c text []
none_waits takes_all (Ok done) a c text put = record { front = text; all = sym (append-nil text); written = put }
none_waits takes_all (Err e) a c text off = off

-- two texts that a writer took one after the other are one text
pub takes_both :
    {S : Type 0} (holds : S → Option (List ℕ)) (takes_all : Bool) (a b c : TextWriter S) (first second both : List ℕ) →
    Takes holds takes_all a b first → Takes holds takes_all b c second → first ++ second ≡ both → Takes holds takes_all a c both
takes_both holds takes_all a b c first second both one more is = (
  more.0 ∙ one.0,
  λ start before taken. subst (HasTaken holds takes_all start c)
      (append_assoc before first second ∙ ap (λ text. before ++ text) is) (more.1 start (before ++ first) (one.1 start before taken)),
)

-- ---- what a writer takes

-- if more waits, the whole text is longer by it
waits_more :
    {E : Type 0} (takes_all : Bool) (state : Result (Unit {0}) E) (old new : Option (List ℕ)) (before waiting text : List ℕ) →
    PutsAllBut takes_all state old new before waiting → PutsAllBut takes_all state old new (before ++ text) (waiting ++ text)
waits_more takes_all (Ok done) old new before waiting text so_far = record {
  front = so_far.front;
  all = ap (λ xs. xs ++ text) so_far.all ∙ append_assoc so_far.front waiting text;
  written = so_far.written;
}
waits_more takes_all (Err e) old new before waiting text (fails, (k, few, part)) =
    (fails, (k, omega (arith, length-append before text), subst (Appends old new) (sym (take-append-le k before text few)) part))

-- a writer that changes nothing has taken the empty text
pub takes_none : {S : Type 0} (holds : S → Option (List ℕ)) (takes_all : Bool) (old : TextWriter S) → Takes holds takes_all old old []
takes_none holds takes_all old =
    (refl, λ start before taken. subst (HasTaken holds takes_all start old) (sym (append-nil before)) taken)

-- a writer takes a text that waits after the others
pub takes_waiting :
    {S : Type 0} (holds : S → Option (List ℕ)) (takes_all : Bool) (old : TextWriter S) (waiting text : List ℕ) →
    waiting ≡ old.waiting ++ text → Takes holds takes_all old (record old { waiting = waiting }) text
takes_waiting holds takes_all old waiting text is = (
  refl,
  λ start before taken. subst (PutsAllBut takes_all old.state start (holds old.out.now) (before ++ text)) (sym is)
      (waits_more takes_all old.state start (holds old.out.now) before old.waiting text taken),
)

-- a writer takes a text that is written at once, if nothing waits
pub takes_written :
    {S : Type 0} (holds : S → Option (List ℕ)) (takes_all : Bool) (old new : TextWriter S) (text : List ℕ) →
    new.out.ghost_name ≡ old.out.ghost_name → old.waiting ≡ [] → new.waiting ≡ [] →
    ((start : Option (List ℕ)) → (whole : List ℕ) → PutsAllBut takes_all old.state start (holds old.out.now) whole text
    → PutsAllBut takes_all new.state start (holds new.out.now) whole []) →
    Takes holds takes_all old new text
takes_written holds takes_all old new text same none left put = (
  same,
  λ start before taken. subst (PutsAllBut takes_all new.state start (holds new.out.now) (before ++ text)) (sym left)
      (put start (before ++ text) (waits_more takes_all old.state start (holds old.out.now) before [] text
      (subst (PutsAllBut takes_all old.state start (holds old.out.now) before) none taken))),
)
