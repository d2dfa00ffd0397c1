-- The path at the place of a finding is that of the file that it comes from.
use Rattle.std.proofs.Common.{◌≡◌, ℕ, zero, suc, ◌+◌, ◌<◌, List, [], ◌∷◌, ◌++◌, length, map, take, Some, refl, ap, subst, sym, ◌∙◌, arith}
use Rattle.std.specs.Prelude.{sum}
use Rattle.std.specs.List.{flat_map, slice_get}
use Rattle.std.proofs.lemmas.List.{length-map}
use Rattle.std.proofs.lemmas.List.Sums.{sum_by-cons}
use Rattle.plan_parts.proofs.OriginLemmas.{origin_inside}
use Rattle.plan_parts.specs.Files.{texts_of}
use Rattle.plan_parts.specs.Origin.{origin_of}
use Rattle.plan_parts.specs.Parts.{files_of}
use Rattle.agenda_machine.specs.Places.{PlacesHavePaths, file_path, found_in, part_count, paths_of, source_paths}

-- an element of the first of two lists, and one of the second
get_first : {X : Type 0} (xs ys : List X) (k : ℕ) → k < length xs → slice_get (xs ++ ys) k ≡ slice_get xs k
get_first [] ys k inside = absurd (omega (arith, inside))
get_first (x ∷ xs) ys zero inside = refl
get_first (x ∷ xs) ys (suc k) inside = get_first xs ys k (omega (arith, inside))

get_second : {X : Type 0} (xs ys : List X) (k : ℕ) → slice_get (xs ++ ys) (length xs + k) ≡ slice_get ys k
get_second [] ys k = let none : 0 + k ≡ k = omega arith in ap (slice_get ys) none
get_second (x ∷ xs) ys k =
    let next : suc (length xs) + k ≡ suc (length xs + k) = omega arith in
    ap (slice_get (x ∷ xs ++ ys)) next ∙ get_second xs ys k

-- an element of one of the lists that are put together, of which each has `size` elements
get_flat :
    {A B : Type 0} (f : A → List B) (size : A → ℕ) → ((x : A) → size x ≡ length (f x)) → (xs : List A) (n k : ℕ) (x : A) →
    slice_get xs n ≡ Some x → k < length (f x) → slice_get (flat_map f xs) (sum (map size (take n xs)) + k) ≡ slice_get (f x) k
get_flat f size same [] n k x there inside = cc
get_flat f size same (y ∷ xs) zero k x there inside =
    let is : y ≡ x = cc in
    let none : 0 + k ≡ k = omega arith in
    ap (slice_get (f y ++ flat_map f xs)) none
    ∙ get_first (f y) (flat_map f xs) k (subst (λ z. k < length (f z)) (sym is) inside)
    ∙ ap (λ z. slice_get (f z) k) is
get_flat f size same (y ∷ xs) (suc n) k x there inside =
    let before = sum (map size (take n xs)) in
    let all : sum (size y ∷ map size (take n xs)) ≡ size y + before = sum_by-cons (λ z. z) (size y) (map size (take n xs)) in
    let sum_is : sum (size y ∷ map size (take n xs)) + k ≡ length (f y) + (before + k) = omega (arith, all, same y) in
    ap (slice_get (f y ++ flat_map f xs)) sum_is
    ∙ get_second (f y) (flat_map f xs) (before + k)
    ∙ get_flat f size same xs n k x there inside

pub places_have_paths : PlacesHavePaths
places_have_paths json root sources source one there some =
    let files = files_of source.parts in
    let origin = origin_of (texts_of files) one.finding.line in
    let texts : length (texts_of files) ≡ length files = length-map files (λ file. file.bytes) in
    let inside : origin.part < length (texts_of files) = origin_inside (texts_of files) one.finding.line (omega (arith, texts, some)) in
    let paths : length (source_paths json root source) ≡ length files = length-map files (file_path json root source.kind) in
    let moved = ap (λ found. (found_in (part_count (take one.place sources)) found one).place) there in
    ap (slice_get (paths_of json root sources)) moved
    ∙ get_flat (source_paths json root) (λ source. length (files_of source.parts))
    (λ source. sym (length-map (files_of source.parts) (file_path json root source.kind))) sources one.place origin.part source there
    (omega (arith, texts, inside, paths))
