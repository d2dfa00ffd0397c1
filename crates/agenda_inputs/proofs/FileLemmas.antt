-- What is read from a file that is cut at a limit, and the failures of files.
use Rattle.std.proofs.Common.{◌≡◌, inl, inr, ℕ, List, [], ◌++◌, take, Option, None, Some, IfSome, option_map, ap, subst, ◌∙◌}
use Rattle.std.specs.declared.io.ErrorKind.{ErrorKind}
use Rattle.std.specs.declared.io.ErrorKind.TheVariants.{OutOfMemory}
use Rattle.agenda_faults.specs.declared.faults.Failure.{Failure}
use Rattle.agenda_inputs.specs.Files.{IsFrontOf, IsUnread, KnownFile, MayFail}
use Rattle.agenda_inputs.specs.Opened.{failure_of_kind}

pub front_read :
    (remaining held : Option (List ℕ)) (limit most : ℕ) (old new : List ℕ) → remaining ≡ held → limit ≡ most → old ≡ [] →
    IfSome (option_map (take limit) remaining) (λ xs. new ≡ old ++ xs) → IsFrontOf held most new
front_read remaining None limit most old new known same none read = tt
front_read remaining (Some xs) limit most old new known same none read =
    let all : new ≡ old ++ take limit xs = subst (λ r. IfSome (option_map (take limit) r) (λ ys. new ≡ old ++ ys)) known read in
    all ∙ ap (λ l. l ++ take limit xs) none ∙ ap (λ n. take n xs) same

-- a file gave an error of this kind
pub unread_by_kind :
    (file : KnownFile) (unread failure : Failure) (kind : ErrorKind) → MayFail file kind → failure ≡ failure_of_kind kind unread →
    IsUnread file unread failure
unread_by_kind file unread failure OutOfMemory may is = inl is
unread_by_kind file unread failure _ may is = inr (is, may (λ same. cc))
