-- What holds of what is found, or where nothing is, from what holds of it.
use Rattle.std.proofs.Common.{Option, None, Some}
use Rattle.std.specs.Prelude.{IfNone, IfSome}

pub some_more : {X : Type 0} (P Q : X → Type 0) → ((x : X) → P x → Q x) → (found : Option X) → IfSome found P → IfSome found Q
some_more P Q more None holds = holds
some_more P Q more (Some x) holds = more x holds

pub none_more : {X : Type 0} (A B : Type 0) → (A → B) → (found : Option X) → IfNone found A → IfNone found B
none_more A B more None holds = more holds
none_more A B more (Some x) holds = holds
