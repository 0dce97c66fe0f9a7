use Rattle.recovery.proofs.Common.{Cell, IsCell, Page, on_ok_weaker, one_cell, refl, subst, sym}
use Rattle.page_tag.specs.Contents.{cell_of}
use Rattle.recovery.specs.Reading.{IsNoted}
use Rattle.recovery.proofs.tables.Counts.{fault_of_page}
use Rattle.recovery.proofs.reading.read_page.Goals as goal

pub returns-clause-read : goal.returns-clause-read
returns-clause-read g c =
    on_ok_weaker c.note.result
    (λ h cells shown.
    let place = c.args.place in
    let page = c.read_into.new.page in
    let found : IsCell page (cells place) =
    subst (λ (p : Page). IsCell p (cells place)) (sym c.in_default.ensures.found) (shown place refl) in
    let same = one_cell page (cell_of c.content_of.result) (cells place) c.content_of.ensures found in
    subst (λ (x : Cell). IsNoted place x c.args.table.now c.note.new.self) same h)
    c.note.ensures.noted

pub returns-in-Err-clause-fault : goal.returns-in-Err-clause-fault
returns-in-Err-clause-fault g c =
    fault_of_page c.args.place.die c.args.place.block c.args.place.page (g.D.Die.failed c.args.die.now)
    (g.D.Die.failed c.read_into.new.die) c.in-Err.fault c.in-Err.ensures.fault
