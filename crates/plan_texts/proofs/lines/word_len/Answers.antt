use Rattle.std.proofs.Common.{rules, tests, unwrap_or, length, ap, ◌∙◌}
use Rattle.std.proofs.lemmas.Iterator.{YieldsList-from_slice}
use Rattle.std.proofs.lemmas.Iterator.Search.{position_from_yields_List}
use Rattle.plan_texts.specs.Text.{is_blank}
use Rattle.plan_texts.proofs.LinesLemmas.{unwrap_or-position}
use Rattle.plan_texts.proofs.lines.word_len.Goals as goal

pub returns : goal.returns
returns c =
    c.unwrap_or.ensures
    ∙ ap (λ place. unwrap_or place (length c.args.text.now))
    (position_from_yields_List is_blank _ _ c.position.result c.position.ensures.ran
    (YieldsList-from_slice _ c.iter.ensures.rest) (λ x b q k. search (rules, tests)))
    ∙ unwrap_or-position is_blank c.args.text.now
