-- No reading of a text has the error that an allocation failed, nor, after its words are cut, that it has a specifier:
-- no definition gives such an error.
-- For clause `memory` of `cron_rule`, and for `memory` and `specifier` of `calendar_event`. There is one lemma for each
-- definition in the reading of a cron text, which it unfolds; `err_steps`, `err_each` and `err_choice` put the parts together.
use Rattle.std.proofs.Common.{◌≡◌, ◌≢◌, ℕ, List, [], ◌∷◌, codes, length, eqb, Option, Result, Err, ok_or, IfErr, arith}
use Rattle.std.proofs.lemmas.Bool.Decides.{nat_tests}
use Rattle.std.specs.Str.{bytes_eq}
use Rattle.plan_sets.specs.declared.item.SetFault.{SetFault}
use Rattle.plan_sets.specs.Values.{Values as SetOfValues}
use Rattle.plan_grammar.specs.declared.fault.RuleFault.{RuleFault}
use Rattle.plan_grammar.specs.declared.fault.RuleCause.{RuleCause}
use Rattle.plan_grammar.specs.declared.fault.RuleCause.TheVariants.{NoMemory, Specifier}
use Rattle.plan_grammar.specs.declared.field.Field.{Field}
use Rattle.plan_grammar.specs.declared.field.Field.TheVariants.{Minute, Hour, MonthDay, Month, WeekDay}
use Rattle.plan_grammar.specs.declared.element.Side.{Side}
use Rattle.plan_texts.specs.Text.{begins_with, cut_at, decimal_number, pieces}
use Rattle.plan_texts.specs.Lines.{cut_word}
use Rattle.plan_texts.specs.WholeLines.{trimmed}
use Rattle.plan_texts.specs.EachLaws.{err_steps, err_each, err_choice}
use Rattle.plan_grammar.specs.Readings.{Reading, Gives}
use Rattle.plan_grammar.specs.Cron.{part_of, value_reading, step_reading, side_reading, item_of, item_reading, items_reading, field_reading, five_fields, next_field, fields_in_front, fields_alone, at_word, found_reading, at_reading, rule_reading, cron_reading}
use Rattle.plan_grammar.specs.Elements.{number_reading, span_by, side_by, cut_item_by, set_in_part, values_by}
use Rattle.plan_sets.specs.declared.item.Item.{Item}

-- a cause that words and their parts may have
abbrev pub IsTextCause : RuleCause → Type 0
IsTextCause NoMemory = ⊥
IsTextCause Specifier = ⊥
IsTextCause other = Unit {0}

-- the error of a reading, if it has one, has such a cause
abbrev pub IsTextFault : {A : Type 0} → Reading A → Type 0
IsTextFault reading = IfErr reading (λ fault. IsTextCause fault.cause)

pub or_fault : {A : Type 0} (o : Option A) (fault : RuleFault) → IsTextCause fault.cause → IsTextFault (ok_or o fault)
or_fault o fault given = grind (arith, nat_tests)

-- a number
pub number : (part : ℕ) (text : List ℕ) → IsTextFault (number_reading part text)
number part text = err_choice _ (eqb (length text) 0) _ _ tt (or_fault (decimal_number text) _ tt)

span :
    (value : List ℕ → Reading ℕ) → ((t : List ℕ) → IsTextFault (value t)) → (text : List ℕ) (cut : Option (List ℕ × List ℕ)) →
    IsTextFault (span_by value text cut)
span value given text cut = grind (arith, nat_tests)

-- what comes before a step, given how a value is read
pub side_of :
    (value : List ℕ → Reading ℕ) → ((t : List ℕ) → IsTextFault (value t)) → (mark text : List ℕ) →
    IsTextFault (side_by value mark text)
side_of value own mark text = err_choice _ (bytes_eq text (codes "*")) _ _ tt (span value own text (cut_at mark text))

-- an element, given how its two sides are read and what they mean
pub cut_item :
    (side : List ℕ → Reading Side) (step : List ℕ → Reading ℕ) (meaning : Side → Option ℕ → Reading Item) →
    ((t : List ℕ) → IsTextFault (side t)) → ((t : List ℕ) → IsTextFault (step t)) →
    ((s : Side) (n : Option ℕ) → IsTextFault (meaning s n)) → (text : List ℕ) (cut : Option (List ℕ × List ℕ)) →
    IsTextFault (cut_item_by side step meaning text cut)
cut_item side step meaning given given₂ given₃ text cut = grind (arith, nat_tests)

set_form : (part : ℕ) (r : Result SetOfValues SetFault) → IsTextFault (set_in_part part r)
set_form part r = grind (arith, nat_tests)

-- the values of a list
pub list_values :
    (part : ℕ) (set : List Item → Result SetOfValues SetFault) (forms : Reading (List Item)) → IsTextFault forms →
    IsTextFault (values_by part set forms)
list_values part set forms own = err_steps _ forms _ own (λ xs. set_form part (set xs))

value : (field : Field) (text : List ℕ) → IsTextFault (value_reading field text)
unfolding value_reading
value field text = grind (arith, nat_tests)

step : (field : Field) (text : List ℕ) → IsTextFault (step_reading field text)
unfolding step_reading
step field text = number (part_of field) text

side : (field : Field) (text : List ℕ) → IsTextFault (side_reading field text)
unfolding side_reading
side field text = side_of (value_reading field) (value field) (codes "-") text

item_form : (field : Field) (left : Side) (n : Option ℕ) → IsTextFault (item_of field left n)
item_form field left n = grind (arith, nat_tests)

item : (field : Field) (text : List ℕ) → IsTextFault (item_reading field text)
unfolding item_reading
item field text =
    cut_item (side_reading field) (step_reading field) (item_of field) (side field) (step field) (item_form field) text
    (cut_at (codes "/") text)

items : (field : Field) (text : List ℕ) → IsTextFault (items_reading field text)
unfolding items_reading
items field text = err_each _ (item_reading field) (item field) (pieces 44 text)

field_values : (field : Field) (text : List ℕ) → IsTextFault (field_reading field text)
unfolding field_reading
field_values field text = list_values (part_of field) _ (items_reading field text) (items field text)

fields : (texts : List (List ℕ)) → IsTextFault (five_fields texts)
unfolding five_fields
fields (a ∷ b ∷ c ∷ d ∷ e ∷ []) =
    err_steps _ (field_reading Minute a) _ (field_values Minute a)
    (λ minutes. err_steps _ (field_reading Hour b) _ (field_values Hour b)
    (λ hours. err_steps _ (field_reading MonthDay c) _ (field_values MonthDay c)
    (λ month_days. err_steps _ (field_reading Month d) _ (field_values Month d)
    (λ months. err_steps _ (field_reading WeekDay e) _ (field_values WeekDay e) (λ week_days. tt)))))
fields other = tt

next : (text : List ℕ) → IsTextFault (next_field text)
next text = or_fault (cut_word text) _ tt

front : (text : List ℕ) → IsTextFault (fields_in_front text)
unfolding fields_in_front
front text = grind (arith, nat_tests, next)

alone : (text : List ℕ) → IsTextFault (fields_alone text)
alone text = grind (arith, nat_tests, front text, fields)

found : (word : Option (Option (List ℕ))) → IsTextFault (found_reading word)
found word = grind (arith, nat_tests, alone)

at : (word : List ℕ) → IsTextFault (at_reading word)
unfolding at_reading
at word = found (at_word word)

-- the error of a cron text has such a cause
pub cron : (text : List ℕ) → IsTextFault (cron_reading text)
unfolding rule_reading
cron text = err_choice _ (begins_with (λ b. eqb b 64) (trimmed text)) _ _ (at (trimmed text)) (alone (trimmed text))

-- so if a call with such a reading fails because of an allocation, its part is 0
pub part_of_memory :
    {A : Type 0} (answer : Result A RuleFault) (reading : Reading A) → Gives answer reading → IsTextFault reading →
    IfErr answer (λ fault. fault.cause ≡ NoMemory → fault.part ≡ 0)
part_of_memory answer reading given given₂ = grind (arith, nat_tests)

-- and it never reports a specifier
pub no_specifier :
    {A : Type 0} (answer : Result A RuleFault) (reading : Reading A) (fault : RuleFault) → Gives answer reading →
    IsTextFault reading → fault.cause ≡ Specifier → answer ≢ Err fault
no_specifier answer reading fault given given₂ given₃ = grind (arith, nat_tests)
