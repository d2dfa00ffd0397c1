use Rattle.std.proofs.Common.{◌∙◌, ap, sym}
use Rattle.std.specs.Str.{chars}
use Rattle.agenda_table.specs.Room.{room_behind}
use Rattle.agenda_table.specs.declared.room.Room.{Room}
use Rattle.agenda_table.proofs.RoomLemmas.{room_all}
use Rattle.agenda_table.proofs.room.put_text.Goals as goal

pub returns-in-All-clause-room : goal.returns-in-All-clause-room
returns-in-All-clause-room g c =
    let text = chars c.args.text.now in
    sym (ap (λ (room : Room). room_behind room text) c.in-All.is ∙ room_all text)
