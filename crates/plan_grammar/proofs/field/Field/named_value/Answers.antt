use Rattle.std.proofs.Common.{rules, tests, ◌+◌, Some, ap, sym, ◌∙◌}
use Rattle.std.proofs.lemmas.Iterator.{YieldsList-from_slice}
use Rattle.std.proofs.lemmas.Iterator.Search.{position_from_yields_List}
use Rattle.std.specs.Option.{option_map}
use Rattle.std.specs.Str.{str_eq_ignore_ascii_case}
use Rattle.plan_grammar.specs.Cron.{lowest}
use Rattle.plan_grammar.proofs.NameLemmas.{named_by_place}
use Rattle.plan_grammar.proofs.field.Field.named_value.Goals as goal

pub returns-in_err-place : goal.returns-in_err-place
returns-in_err-place c =
    c.from_residual.ensures
    ∙ ap (option_map (λ n. lowest c.args.self + n)) (sym c.in_err-place.was)
    ∙ named_by_place (λ name. name.now) c.args.self c.args.name.now c.names.result.now c.position.result c.names.ensures
    (position_from_yields_List (λ known. str_eq_ignore_ascii_case c.args.name.now known.now) _ _ c.position.result
    c.position.ensures.ran (YieldsList-from_slice _ c.iter.ensures.rest) (λ x b q k. search (rules, tests)))

pub returns : goal.returns
returns c =
    ap (λ n. Some (n + c.in_ok-place.place)) c.lowest.ensures
    ∙ ap (option_map (λ n. lowest c.args.self + n)) (sym c.in_ok-place.was)
    ∙ named_by_place (λ name. name.now) c.args.self c.args.name.now c.names.result.now c.position.result c.names.ensures
    (position_from_yields_List (λ known. str_eq_ignore_ascii_case c.args.name.now known.now) _ _ c.position.result
    c.position.ensures.ran (YieldsList-from_slice _ c.iter.ensures.rest) (λ x b q k. search (rules, tests)))
