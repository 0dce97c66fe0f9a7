use Rattle.recovery.proofs.Common.{arith, on_ok_weaker, refl, ◌+◌}
use Rattle.page_tag.specs.Contents.{cell_of}
use Rattle.recovery.proofs.tables.Whole.{told_and_noted}
use Rattle.recovery.proofs.reading.note_pair.Goals as goal

pub returns-clause-noted : goal.returns-clause-noted
returns-clause-noted c =
    on_ok_weaker c.note-2.result
    (λ h n cells p q told_p told_q is_p is_q r.
    let d = c.args.spot.0 in
    let b = c.args.spot.1 in
    let k = c.args.index in
    told_and_noted n cells d b (k + 1) (k + 2) c.note.new.self c.note-2.new.self q (cell_of c.args.next) (omega arith)
    told_q is_q h
    (told_and_noted n cells d b k (k + 1) c.args.table.now c.note.new.self p (cell_of c.args.one) refl told_p is_p
    c.in_default.ensures.noted r))
    c.note-2.ensures.noted
