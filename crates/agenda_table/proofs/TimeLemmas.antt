-- Timestamps are ASCII.
use Rattle.std.proofs.Common.{◌≡◌, ℕ, zero, suc, ◌<◌, ◌≤◌, List, [], ◌∷◌, ap, arith, length, refl, subst, sym}
use Rattle.std.proofs.lemmas.Str.{IsCharBoundary-from_ascii, IsUtf8-from_ascii}
use Rattle.std.specs.Str.{IsAscii, IsCharBoundary, IsUtf8}
use Rattle.plan_sets.specs.Civil.{civil_fields}
use Rattle.plan_sets.specs.Limits.{end_second}
use Rattle.plan_sets.specs.Moment.{HasRoom, Written, moment_text_of, written_of, written_text}
use Rattle.plan_sets.proofs.MomentLemmas.{Says-moment_text_of}

abbrev Below : List ℕ → Type 0
Below [] = Unit {0}
Below (b ∷ bytes) = (b < 128) × Below bytes

each_below : (bytes : List ℕ) → Below bytes → IsAscii bytes
each_below [] below i = omega arith
each_below (b ∷ bytes) below zero = below.0
each_below (b ∷ bytes) below (suc i) = each_below bytes below.1 i

written_below : (w : Written) → HasRoom w → Below (written_text w)
written_below w room = (
  omega arith,
  (
    omega arith,
    (
      omega arith,
      (
        omega arith,
        (
          omega arith,
          (
            omega arith,
            (
              omega arith,
              (
                omega arith,
                (
                  omega arith,
                  (
                    omega arith,
                    (
                      omega arith,
                      (
                        omega arith,
                        (
                          omega arith,
                          (
                            omega arith,
                            (
                              omega arith,
                              (
                                omega arith,
                                (
                                  omega arith,
                                  (
                                    omega arith,
                                    (omega arith, (omega arith, tt)),
                                  ),
                                ),
                              ),
                            ),
                          ),
                        ),
                      ),
                    ),
                  ),
                ),
              ),
            ),
          ),
        ),
      ),
    ),
  ),
)

-- each byte of a timestamp is below 128
pub moment_ascii : (n : ℕ) → n ≤ end_second → IsAscii (moment_text_of n)
moment_ascii n h =
    let says = Says-moment_text_of (moment_text_of n) n h refl in
    subst IsAscii (sym says.text_is) (each_below (written_text (written_of (civil_fields n)))
    (written_below (written_of (civil_fields n)) says.room))

pub moment_utf8 : (text : List ℕ) (n : ℕ) → n ≤ end_second → text ≡ moment_text_of n → IsUtf8 text
moment_utf8 text n h is = IsUtf8-from_ascii text (subst IsAscii (sym is) (moment_ascii n h))

moment_length : (n : ℕ) → length (moment_text_of n) ≡ 20
unfolding moment_text_of
moment_length n = refl

-- a timestamp can be cut at each place
pub moment_boundary :
    (text : List ℕ) (n place : ℕ) → n ≤ end_second → text ≡ moment_text_of n → place ≤ 20 → IsCharBoundary text place
moment_boundary text n place h is few =
    IsCharBoundary-from_ascii text place (subst IsAscii (sym is) (moment_ascii n h))
    (omega (arith, ap length is, moment_length n))
