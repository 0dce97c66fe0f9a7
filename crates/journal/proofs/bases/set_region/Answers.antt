use Rattle.std.proofs.Common.{◌∙◌, sym}
use Rattle.journal.proofs.HeldUnits.{found_set, none_set, room_for}
use Rattle.journal.proofs.bases.set_region.Goals as goal
use Rattle.journal.proofs.bases.set_region.Goals.{then-is_some, else-is_some}

pub set_area-requires-clause-bytes_in : goal.set_area-requires-clause-bytes_in
set_area-requires-clause-bytes_in c =
    let found = c.args.region.now in
    let new = c.requires.new in
    room_for new.0 c.args.number c.args.plain.now found.key found.area.now
    (sym c.is_some.ensures ∙ c.if-is_some.true) new.1 new.2

pub returns : goal.returns
returns c =
    λ n new whole.
    let found = c.args.region.now in
    let before = c.if-is_some.plain in
    elim c.if-is_some.branch [
      | then-is_some w ↦
          found_set n c.args.number c.args.plain.now before c.set_key.new.self c.set_counter.new.self found.key
          found.area.now found.counter (sym c.is_some.ensures ∙ w.if-is_some.true) c.requires.there new whole
          (w.plain-is ∙ w.set_area.ensures) c.set_key.ensures c.set_counter.ensures
      | else-is_some w ↦
          none_set n c.args.number c.args.plain.now before c.set_key.new.self c.set_counter.new.self found.key
          found.area.now found.counter (sym c.is_some.ensures ∙ w.if-is_some.false) c.requires.there new w.plain-is
          c.set_key.ensures c.set_counter.ensures
    ]
