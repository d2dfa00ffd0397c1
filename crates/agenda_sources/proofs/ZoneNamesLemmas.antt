-- Names of zones that are added source by source: for `zone_names`.
use Rattle.std.proofs.Common.{◌≡◌, ℕ, ◌+◌, ◌<◌, List, [], ◌∷◌, ◌++◌, length, get_or, drop, refl, ap, sym, ◌∙◌}
use Rattle.std.proofs.lemmas.List.{drop_more}
use Rattle.std.specs.List.{flat_map}
use Rattle.plan_rules.specs.Names.{with_name, with_names}
use Rattle.agenda_sources.specs.declared.sources.Source.{Source}
use Rattle.agenda_sources.specs.ZoneNames.{source_zones}

with_names-append :
    (names xs ys : List (List ℕ)) → with_names names (xs ++ ys) ≡ with_names (with_names names xs) ys
with_names-append names [] ys = refl
with_names-append names (x ∷ xs) ys = with_names-append (with_name names x) xs ys

-- the names of one more source
pub names_step :
    (names next : List (List ℕ)) (sources : List Source) (place : ℕ) (source : Source) (whole : List (List ℕ)) →
    place < length sources → source ≡ get_or sources place source → next ≡ with_names names (source_zones source) →
    with_names names (flat_map source_zones (drop place sources)) ≡ whole →
    with_names next (flat_map source_zones (drop (place + 1) sources)) ≡ whole
names_step names next sources place source whole inside is added so_far =
    let more = flat_map source_zones (drop (place + 1) sources) in
    ap (λ n. with_names n more) added
    ∙ sym (with_names-append names (source_zones source) more)
    ∙ ap (λ left. with_names names (flat_map source_zones left))
    (sym (drop_more sources place source inside ∙ ap (λ (s : Source). s ∷ drop (place + 1) sources) (sym is)))
    ∙ so_far
