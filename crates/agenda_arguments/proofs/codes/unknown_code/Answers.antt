-- The text quotes the name, and lists the codes.
use Rattle.std.proofs.Common.{◌∙◌, ◌++◌, ap, codes}
use Rattle.std.specs.List.{join_by}
use Rattle.agenda_codes.specs.Codes.{name_of}
use Rattle.agenda_arguments.proofs.codes.unknown_code.Goals as goal

pub returns : goal.returns
returns c = c.new.ensures ∙ (c.in_ok-text.ensures.ok ∙ ap
    (λ listed. codes "error: invalid value '" ++ (c.args.name.now ++ (codes "' for '[CODE]'\n\n  tip: the codes are "
    ++ (listed ++ codes "\n\nFor more information, try '--help'.\n"))))
    (c.in_ok-codes.ensures.ok ∙ ap (join_by name_of (codes ", ")) c.all.ensures))
