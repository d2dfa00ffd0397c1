-- A command is no longer than its line: for `is_too_long`.
use Rattle.std.proofs.Common.{◌≡◌, ℕ, zero, suc, ◌+◌, ◌-◌, ◌<◌, ◌≤◌, Bool, true, false, cond, ◌==◌, if◌then◌else◌, Option, Some, None, List, [], ◌∷◌, length, take, drop, refl, ap, sym, ◌∙◌, arith}
use Rattle.std.proofs.lemmas.Bool.{lt-ltb, le-ltb}
use Rattle.std.proofs.lemmas.List.{length-drop, length-take}
use Rattle.std.specs.List.{position_or_len, prefix_len}
use Rattle.std.specs.Option.{option_map_or}
use Rattle.std.specs.Str.{byte}
use Rattle.plan_rules.specs.declared.crontabs.Kind.{Kind}
use Rattle.plan_rules.specs.declared.crontabs.Kind.TheVariants.{User, System}
use Rattle.plan_texts.specs.Lines.{after_blanks, cut_word}
use Rattle.plan_texts.specs.Text.{begins_with, is_blank}
use Rattle.plan_cron.specs.Commands.{after_rule, cut_command, is_too_long}
use Rattle.plan_cron.specs.Lines.{before_nul, is_nul, most_kept}
use Rattle.plan_cron.specs.Words.{after_word, after_words}

shorter_rest :
    (b : Bool) (n : ℕ) (text : List ℕ) →
    length (option_map_or (λ (cut : List ℕ × List ℕ). cut.1) (cond b None (Some (take n text, drop n text))) []) ≤ length text
shorter_rest true n text = omega arith
shorter_rest false n text = omega (arith, length-drop n text)

shorter_after_word : (text : List ℕ) → length (after_word text) ≤ length text
unfolding cut_word
shorter_after_word text =
    let rest = after_blanks text in
    let first : length (after_word text) ≤ length (after_blanks text) = shorter_rest (length rest == 0) (position_or_len is_blank rest) rest in
    omega (arith, first, length-drop (prefix_len is_blank text) text)

shorter_after_words : (count : ℕ) (text : List ℕ) → length (after_words count text) ≤ length text
shorter_after_words zero text = omega arith
shorter_after_words (suc count) text = omega (arith, shorter_after_word (after_words count text), shorter_after_words count text)

shorter_of_two : (b : Bool) (xs ys zs : List ℕ) → length xs ≤ length zs → length ys ≤ length zs → length (if b then xs else ys) ≤ length zs
shorter_of_two true xs ys zs first second = first
shorter_of_two false xs ys zs first second = second

shorter_after_rule : (line : List ℕ) → length (after_rule line) ≤ length line
shorter_after_rule line =
    shorter_of_two (begins_with (λ b. b == byte "@") (after_blanks line)) (after_words 1 line) (after_words 5 line) line
    (shorter_after_words 1 line) (shorter_after_words 5 line)

shorter_before_nul : (text : List ℕ) → length (before_nul text) ≤ length text
shorter_before_nul text = omega (arith, length-take (position_or_len is_nul text) text)

shorter_cut : (kind : Kind) (line : List ℕ) → length (cut_command kind line) ≤ length (after_rule line)
shorter_cut User line = omega (arith, length-drop (prefix_len is_blank (after_rule line)) (after_rule line))
shorter_cut System line = omega (arith, length-drop 1 (after_word (after_rule line)), shorter_after_word (after_rule line))

pub never_too_long : (kind : Kind) (line : List ℕ) → length line ≤ most_kept → is_too_long kind line ≡ false
unfolding is_too_long
never_too_long kind line short =
    let kept = shorter_before_nul (cut_command kind line) in
    let cut = shorter_cut kind line in
    let whole = shorter_after_rule line in
    le-ltb _ _ (omega (arith, kept, cut, whole))
