-- Answers the one clause of `listed_places`: the set holds the places from 1 to 31 that are listed.
-- The loop's invariant: the set so far holds the listed places before the next one. A turn adds a listed place or skips
-- another (`place_added`, `place_passed`). At the end the set is determined by its members (`places_collected`).
use Rattle.std.proofs.Common.{◌≡◌, ◌+◌, ◌-◌, ◌&&◌, ◌||◌, nat_eq, ap, sym, ◌∙◌, arith}
use Rattle.plan_sets.specs.Values.{Values, has_value, is_among}
use Rattle.plan_sets.specs.ValuesLaws.{has_value-no_values, has_value-with_value}
use Rattle.plan_grammar.specs.Event.{is_listed_place}
use Rattle.plan_grammar.proofs.PlacesLemmas.{none_yet, place_added, place_passed, places_collected}
use Rattle.plan_grammar.proofs.places.listed_places.Goals as goal
use Rattle.plan_grammar.proofs.places.listed_places.Goals.{then-is_listed, else-is_listed}

pub loop-place-init : goal.loop-place-init
loop-place-init c =
    let new = c.empty-places.ensures in
    record {
      base = ap (λ (s : Values). s.base) new;
      members = λ v. ap (λ (s : Values). has_value s v) new ∙ has_value-no_values 1 v ∙ none_yet (is_listed_place c.args.items.now v) v;
    }

pub loop-place-preserved : goal.loop-place-preserved
loop-place-preserved c =
    let place = c.loop-place.place in
    let test = is_listed_place c.args.items.now in
    let n = place - 1 in
    let here : n + 1 ≡ place = omega arith in
    let next : place + 1 - 1 ≡ n + 1 = omega arith in
    elim c.if-is_listed.branch [
      | then-is_listed w ↦
          let new = w.places-is ∙ w.insert.ensures in
          record {
            base = ap (λ (s : Values). s.base) new ∙ c.loop-place.invariant.base;
            members = λ v. ap (λ (s : Values). has_value s v) new ∙ has_value-with_value c.loop-place.places place v
                ∙ ap (λ k. nat_eq v k || has_value c.loop-place.places v) (sym here)
                ∙ place_added (has_value c.loop-place.places v) test n v
                (ap test here ∙ sym c.is_listed.ensures ∙ w.if-is_listed.true) (c.loop-place.invariant.members v)
                ∙ ap (λ k. is_among 1 k v && test v) (sym next);
          }
      | else-is_listed w ↦ record {
        base = ap (λ (s : Values). s.base) w.places-is ∙ c.loop-place.invariant.base;
        members = λ v. ap (λ (s : Values). has_value s v) w.places-is
            ∙ place_passed (has_value c.loop-place.places v) test n v
            (ap test here ∙ sym c.is_listed.ensures ∙ w.if-is_listed.false) (c.loop-place.invariant.members v)
            ∙ ap (λ k. is_among 1 k v && test v) (sym next);
      }
    ]

pub returns : goal.returns
returns c =
    let whole : c.loop-place.place - 1 ≡ 31 = omega arith in
    places_collected (is_listed_place c.args.items.now) 31 c.loop-place.places c.loop-place.invariant.base
    (λ v. c.loop-place.invariant.members v ∙ ap (λ n. is_among 1 n v && is_listed_place c.args.items.now v) whole)
