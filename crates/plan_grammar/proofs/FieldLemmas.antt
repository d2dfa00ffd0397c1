-- A text without a comma is one element. For `Field::values`, which reads such a text without a list.
use Rattle.std.proofs.Common.{◌≡◌, ℕ, ◌==◌, ◌||◌, Bool, false, cond, List, [], ◌∷◌, Ok, Err, refl, ap, ◌∙◌, arith}
use Rattle.std.proofs.lemmas.Bool.Decides.{nat_tests}
use Rattle.std.specs.List.{slice_split, onto_first, list_any}
use Rattle.plan_sets.specs.declared.item.Item.{Item}
use Rattle.plan_sets.specs.Items.{set_reading}
use Rattle.plan_texts.specs.Steps.{◌>>=◌, each}
use Rattle.plan_grammar.specs.declared.fault.RuleFault.{RuleFault}
use Rattle.plan_grammar.specs.declared.field.Field.{Field}
use Rattle.plan_grammar.specs.Readings.{Reading, Gives}
use Rattle.plan_grammar.specs.Cron.{part_of, lowest, highest, item_reading, items_reading, field_reading}
use Rattle.plan_grammar.specs.Elements.{set_in_part, values_by}

-- one more byte before a text that is one piece
one_ahead :
    (x : ℕ) (xs : List ℕ) (pieces : List (List ℕ)) (here later : Bool) → (here || later) ≡ false →
    (later ≡ false → pieces ≡ xs ∷ []) → cond here ([] ∷ pieces) (onto_first x pieces) ≡ (x ∷ xs) ∷ []
one_ahead x xs pieces here later given given₂ = grind (arith, nat_tests)

-- if no byte passes the test, the text is one piece
one_piece : (p : ℕ → Bool) (text : List ℕ) → list_any p text ≡ false → slice_split p text ≡ text ∷ []
one_piece p [] none = refl
one_piece p (x ∷ xs) none =
    one_ahead x xs (slice_split p xs) (p x) (list_any p xs) none (λ rest. one_piece p xs rest)

-- a text without a comma is read as its one item
one_item :
    (field : Field) (text : List ℕ) → list_any (λ b. b == 44) text ≡ false →
    items_reading field text ≡ (item_reading field text >>= λ item. Ok (item ∷ []))
unfolding items_reading
one_item field text none = ap (each (item_reading field)) (one_piece (λ b. b == 44) text none)

-- the values of a text without a comma are those of its one item
pub one_item-values :
    (field : Field) (text : List ℕ) (item : Item) → list_any (λ b. b == 44) text ≡ false → item_reading field text ≡ Ok item →
    field_reading field text ≡ set_in_part (part_of field) (set_reading (item ∷ []) (lowest field) (highest field))
unfolding field_reading
one_item-values field text item none read =
    ap (values_by (part_of field) (λ items. set_reading items (lowest field) (highest field)))
    (one_item field text none ∙ ap (λ r. r >>= λ item. Ok (item ∷ [])) read)

-- the error of a text without a comma is that of its one item
pub one_item-fault :
    (field : Field) (text : List ℕ) (fault : RuleFault) → list_any (λ b. b == 44) text ≡ false →
    item_reading field text ≡ Err fault → field_reading field text ≡ Err fault
unfolding field_reading
one_item-fault field text fault none read =
    ap (values_by (part_of field) (λ items. set_reading items (lowest field) (highest field)))
    (one_item field text none ∙ ap (λ r. r >>= λ item. Ok (item ∷ [])) read)

-- a result that equals the reading gives it
pub given : {A : Type 0} (answer reading : Reading A) → reading ≡ answer → Gives answer reading
given answer reading is = grind (arith, nat_tests)
