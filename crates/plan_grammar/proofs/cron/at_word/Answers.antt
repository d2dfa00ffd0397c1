use Rattle.std.proofs.Common.{rules, tests, ap, sym, ◌∙◌}
use Rattle.std.proofs.lemmas.Iterator.{YieldsList-from_slice}
use Rattle.std.proofs.lemmas.Iterator.Search.{find_from_yields_List}
use Rattle.std.specs.Option.{option_map}
use Rattle.std.specs.Str.{bytes_eq}
use Rattle.plan_grammar.proofs.NameLemmas.{found_by_word}
use Rattle.plan_grammar.proofs.cron.at_word.Goals as goal

pub returns-in_err-fields : goal.returns-in_err-fields
returns-in_err-fields c =
    let found = find_from_yields_List (λ row. bytes_eq (row.0.now) c.args.word.now) _ _ c.find.result c.find.ensures.ran
    (YieldsList-from_slice _ c.iter.ensures.rest) (λ x b q k. search (rules, tests)) in
    ap (option_map (λ fields. option_map (λ text. text.now) fields)) c.from_residual.ensures
    ∙ ap (λ row. option_map (λ r. option_map (λ text. text.now) (r.1)) row) (sym (ap (option_map (λ x. x.now)) c.in_err-fields.was))
    ∙ found_by_word (λ row. (row.0.now, option_map (λ text. text.now) row.1)) c.args.word.now c.at_words.result.now
    (option_map (λ x. x.now) c.find.result) c.at_words.ensures found

pub returns : goal.returns
returns c =
    let found = find_from_yields_List (λ row. bytes_eq (row.0.now) c.args.word.now) _ _ c.find.result c.find.ensures.ran
    (YieldsList-from_slice _ c.iter.ensures.rest) (λ x b q k. search (rules, tests)) in
    ap (λ row. option_map (λ r. option_map (λ text. text.now) (r.1)) row) (sym (ap (option_map (λ x. x.now)) c.in_ok-fields.was))
    ∙ found_by_word (λ row. (row.0.now, option_map (λ text. text.now) row.1)) c.args.word.now c.at_words.result.now
    (option_map (λ x. x.now) c.find.result) c.at_words.ensures found
