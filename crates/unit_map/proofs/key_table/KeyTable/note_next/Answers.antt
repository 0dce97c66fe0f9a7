use Rattle.std.proofs.Common.{rules}
use Rattle.unit_map.proofs.TableKept.{noted_as_stands, table_noted, table_passes}
use Rattle.unit_map.proofs.key_table.KeyTable.note_next.Goals as goal

pub returns-in-Some : goal.returns-in-Some
returns-in-Some c =
    table_noted c.args.numbers.now c.args.places.now c.args.places.now c.args.index _ c.args.index
    c.in-Some.stored.place c.args.self.now c.note.new.self c.requires.before
    (noted_as_stands c.args.places.now c.args.index c.in-Some.stored (search rules)) c.requires.known
    c.note.ensures.keys c.note.ensures.shared

pub returns-in_default : goal.returns-in_default
returns-in_default c =
    table_passes c.args.numbers.now c.args.places.now c.args.index c.args.self.now c.requires.before (search rules)
