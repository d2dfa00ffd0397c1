use Rattle.std.proofs.Common.{◌≡◌, ℕ, List, ◌++◌, length, take, ◌∙◌, arith}
use Rattle.std.proofs.lemmas.List.Sorted.{IsPermutation-trans}
use Rattle.std.proofs.lemmas.List.{take-append-le, take_all}
use Rattle.plan_collect.specs.declared.start.Start.{Start}
use Rattle.plan_collect.proofs.sorting.sort_starts.Goals as goal
use Rattle.std.proofs.lemmas.Bool.Decides.{nat_tests}

-- a slice of all starts is all of them
all_of : (n : ℕ) (xs ys : List Start) → n ≡ length xs → take n (xs ++ ys) ≡ xs
all_of n xs ys is = take-append-le n xs ys (omega arith) ∙ take_all n xs (omega arith)

pub returns-clause-permutation : goal.returns-clause-permutation
returns-clause-permutation c = grind (arith, nat_tests, all_of, IsPermutation-trans)
