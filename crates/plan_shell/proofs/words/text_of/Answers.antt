use Rattle.std.proofs.Common.{subst, sym}
use Rattle.std.proofs.lemmas.Str.{IsUtf8-from_ascii}
use Rattle.std.specs.Str.{IsUtf8}
use Rattle.plan_shell.proofs.words.text_of.Goals as goal

pub unwrap-text-requires : goal.unwrap-text-requires
unwrap-text-requires c =
    c.from_utf8.ensures.succeeds (subst IsUtf8 (sym c.in_ok-bytes.ensures.items) (IsUtf8-from_ascii c.args.word.now c.requires))
