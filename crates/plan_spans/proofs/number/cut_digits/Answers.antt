use Rattle.std.proofs.Common.{take, ap, ◌∙◌}
use Rattle.std.specs.Char.{is_ascii_digit}
use Rattle.std.specs.List.{list_all}
use Rattle.plan_spans.proofs.NumberLemmas.{front_passes}
use Rattle.plan_spans.proofs.number.cut_digits.Goals as goal

pub returns-clause-all : goal.returns-clause-all
returns-clause-all c =
    ap (list_all is_ascii_digit) (c.split_at.ensures.front ∙ ap (λ n. take n c.args.text.now) c.digits_in_front.ensures.count)
    ∙ front_passes is_ascii_digit c.args.text.now
