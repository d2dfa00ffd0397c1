-- Of the jobs so far, those that cover most suffice.
use Rattle.std.proofs.Common.{◌≡◌, ℕ, zero, suc, ◌+◌, ◌<◌, not, List, [], ◌∷◌, take, drop, get_or, length, inl, inr, refl, ap, sym, ◌∙◌, arith}
use Rattle.std.specs.Prelude.{nat_lt, filter}
use Rattle.std.specs.List.{insert, prefix_len, enumerate_from}
use Rattle.std.proofs.lemmas.Bool.{cases_Bool}
use Rattle.agenda_cover.specs.Counting.{seconds_counted}
use Rattle.agenda_cover.specs.Ranking.{covers_some, placed, ranked_after, with_job}

-- a job at its place is inserted after those that don't cover less
pub inserted_at :
    (job : ℕ × ℕ) (others : List (ℕ × ℕ)) (k : ℕ) → k ≡ prefix_len (λ other. not (nat_lt other.1 job.1)) others →
    insert others k job ≡ placed job others
inserted_at job [] k is = rw is refl
inserted_at job (other ∷ others) zero is = elim (cases_Bool (nat_lt other.1 job.1)) [
  | inl less ↦ rw less refl
  | inr not_less ↦ absurd (let h = rw not_less at is in omega arith)
]
inserted_at job (other ∷ others) (suc k) is = elim (cases_Bool (nat_lt other.1 job.1)) [
  | inl less ↦ absurd (let h = rw less at is in omega arith)
  | inr not_less ↦
      let h = rw not_less at is in
      rw not_less (ap (λ (xs : List (ℕ × ℕ)). other ∷ xs) (inserted_at job others k (omega arith)))
]

pub inserted :
    (job : ℕ × ℕ) (others : List (ℕ × ℕ)) → insert others (prefix_len (λ other. not (nat_lt other.1 job.1)) others) job ≡ placed job others
inserted job others = inserted_at job others _ refl

take_fewer : (n : ℕ) (xs : List (ℕ × ℕ)) → take n (take (suc n) xs) ≡ take n xs
take_fewer zero xs = refl
take_fewer (suc n) [] = refl
take_fewer (suc n) (x ∷ xs) = ap (λ (ys : List (ℕ × ℕ)). x ∷ ys) (take_fewer n xs)

take_again : (n : ℕ) (xs : List (ℕ × ℕ)) → take n (take n xs) ≡ take n xs
take_again zero xs = refl
take_again (suc n) [] = refl
take_again (suc n) (x ∷ xs) = ap (λ (ys : List (ℕ × ℕ)). x ∷ ys) (take_again n xs)

take_after : (n : ℕ) (x : ℕ × ℕ) (xs : List (ℕ × ℕ)) → take n (x ∷ take n xs) ≡ take n (x ∷ xs)
take_after zero x xs = refl
take_after (suc n) x xs = ap (λ (ys : List (ℕ × ℕ)). x ∷ ys) (take_fewer n xs)

-- the first n of a list with one more job are those of its first n with that job
take_placed :
    (n : ℕ) (job : ℕ × ℕ) (others : List (ℕ × ℕ)) → take n (placed job (take n others)) ≡ take n (placed job others)
take_placed zero job others = refl
take_placed (suc n) job [] = refl
take_placed (suc n) job (other ∷ others) = elim (cases_Bool (nat_lt other.1 job.1)) [
  | inl less ↦ rw less (ap (λ (xs : List (ℕ × ℕ)). job ∷ xs) (take_after n other others))
  | inr not_less ↦ rw not_less (ap (λ (xs : List (ℕ × ℕ)). other ∷ xs) (take_placed n job others))
]

-- and so with more jobs
pub take_ranked :
    (n : ℕ) (ranked jobs : List (ℕ × ℕ)) → take n (ranked_after (take n ranked) jobs) ≡ take n (ranked_after ranked jobs)
take_ranked n ranked [] = take_again n ranked
take_ranked n ranked (job ∷ jobs) =
    sym (take_ranked n (placed job (take n ranked)) jobs)
    ∙ ap (λ xs. take n (ranked_after xs jobs)) (take_placed n job ranked)
    ∙ take_ranked n (placed job ranked) jobs

-- the jobs that are left, from a number on, which cover something
abbrev pub left : (number : ℕ) → (counted : List (ℕ × ℕ)) → List (ℕ × ℕ)
left number counted = filter covers_some (enumerate_from number (seconds_counted counted))

more_of :
    (number : ℕ) (one : ℕ × ℕ) (more most : List (ℕ × ℕ)) →
    take 3 (ranked_after (with_job (number, one.1) most) (left (number + 1) more)) ≡ take 3 (ranked_after most (left number (one ∷ more)))
more_of number one more most = elim (cases_Bool (nat_lt 0 one.1)) [
  | inl some ↦ rw some (take_ranked 3 (placed (number, one.1) most) (left (number + 1) more))
  | inr none ↦ rw none refl
]

rest_from : (counted : List (ℕ × ℕ)) (i : ℕ) (d : ℕ × ℕ) → i < length counted → drop i counted ≡ get_or counted i d ∷ drop (suc i) counted
rest_from [] i d lt = absurd (omega arith)
rest_from (one ∷ counted) zero d lt = refl
rest_from (one ∷ counted) (suc i) d lt = rest_from counted i d (omega arith)

-- a turn of the loop
pub ranked_more :
    (counted : List (ℕ × ℕ)) (i : ℕ) (one : ℕ × ℕ) (most : List (ℕ × ℕ)) → i < length counted → one ≡ get_or counted i one →
    take 3 (ranked_after (with_job (i, one.1) most) (left (i + 1) (drop (i + 1) counted)))
    ≡ take 3 (ranked_after most (left i (drop i counted)))
ranked_more counted i one most lt here =
    let next : suc i ≡ i + 1 = omega arith in
    let rest : drop i counted ≡ one ∷ drop (i + 1) counted =
    rest_from counted i one lt ∙ ap (λ k. get_or counted i one ∷ drop k counted) next ∙ ap (λ e. e ∷ drop (i + 1) counted) (sym here) in
    more_of i one (drop (i + 1) counted) most ∙ ap (λ (xs : List (ℕ × ℕ)). take 3 (ranked_after most (left i xs))) (sym rest)

-- of three jobs or fewer, the first three are all, and so with one more
pub few_kept : (job : ℕ × ℕ) (most : List (ℕ × ℕ)) → take 3 most ≡ most → take 3 (with_job job most) ≡ with_job job most
few_kept job most few = elim (cases_Bool (covers_some job)) [
  | inl some ↦ rw some (take_again 3 (placed job most))
  | inr none ↦ rw none few
]
