use Rattle.std.proofs.Common.{◌++◌, ◌∷◌, [], ap, ◌∙◌, append_assoc}
use Rattle.plan_streams.proofs.StreamLemmas.{takes_both}
use Rattle.agenda_codes.specs.Codes.{name_of}
use Rattle.agenda_codes.specs.Texts.{code_line}
use Rattle.agenda_codes.proofs.write.put_line.Goals as goal

pub returns : goal.returns
returns g c =
    let last = c.as_bytes-2.result.now ++ 10 ∷ [] in
    takes_both g.S.Stream.holds g.S.Stream.takes_all c.args.lines.now c.put_both.new.self c.put_both-2.new.self
    (c.as_bytes.result.now ++ 9 ∷ []) last (code_line c.args.code) c.put_both.ensures c.put_both-2.ensures
    (append_assoc c.as_bytes.result.now (9 ∷ []) last ∙ ap (λ name. name ++ (9 ∷ last)) (c.as_bytes.ensures.value ∙ c.name.ensures.name)
    ∙ ap (λ sentence. name_of c.args.code ++ (9 ∷ (sentence ++ 10 ∷ []))) (c.as_bytes-2.ensures.value ∙ c.sentence.ensures))
