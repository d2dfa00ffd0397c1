use Rattle.std.proofs.Common.{◌≡◌, ◌<◌, ◌^◌, true, take}
use Rattle.std.specs.Char.{is_ascii_digit}
use Rattle.std.specs.List.{list_all}
use Rattle.plan_texts.specs.Text.{digits_after}
use Rattle.plan_texts.proofs.parts.number.Given as goal

abbrev pub invariant-loop-byte : goal.invariant-loop-byte
invariant-loop-byte l = record {
  digits : list_all is_ascii_digit (take l.byte-index l.text) ≡ true;
  so_far : l.value ≡ digits_after 0 (take l.byte-index l.text);
  small : l.value < 10 ^ l.byte-index;
}
