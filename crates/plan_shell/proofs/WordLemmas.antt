-- The words that are looked at are ASCII.
use Rattle.std.proofs.Common.{◌≡◌, ℕ, ◌<◌, Bool, true, false, ◌&&◌, nat_lt, List, refl, arith}
use Rattle.std.proofs.lemmas.Bool.Decides.{nat_tests}
use Rattle.std.proofs.lemmas.List.Elements.{All-weaker}
use Rattle.std.proofs.lemmas.List.Sums.{AllPass-from_list_all}
use Rattle.std.proofs.lemmas.Str.Ascii.{IsAscii-from_all}
use Rattle.std.specs.List.{list_all}
use Rattle.std.specs.Str.{IsAscii}
use Rattle.plan_shell.specs.Commands.{is_name_byte, is_path_byte}

and_left : (x y : Bool) → (x && y) ≡ true → x ≡ true
and_left true y h = refl
and_left false y h = h

and_right : (x y : Bool) → (x && y) ≡ true → y ≡ true
and_right true y h = h
and_right false y h = cc

below_by_test : (b : ℕ) → nat_lt b 127 ≡ true → b < 128
below_by_test b h = grind (arith, nat_tests)

path_byte_below : (b : ℕ) → is_path_byte b ≡ true → b < 128
path_byte_below b h = below_by_test b (and_right (nat_lt 32 b) (nat_lt b 127) (and_left (nat_lt 32 b && nat_lt b 127) _ h))

name_byte_below : (b : ℕ) → is_name_byte b ≡ true → b < 128
name_byte_below b h = grind (arith, nat_tests)

ascii_by : (p : ℕ → Bool) → ((b : ℕ) → p b ≡ true → b < 128) → (word : List ℕ) → list_all p word ≡ true → IsAscii word
ascii_by p below word h =
    IsAscii-from_all word (All-weaker (λ b. p b ≡ true) (λ b. b < 128) below word (AllPass-from_list_all p word h))

pub ascii_path : (word : List ℕ) → list_all is_path_byte word ≡ true → IsAscii word
ascii_path word h = ascii_by is_path_byte path_byte_below word h

pub ascii_name : (word : List ℕ) → list_all is_name_byte word ≡ true → IsAscii word
ascii_name word h = ascii_by is_name_byte name_byte_below word h
