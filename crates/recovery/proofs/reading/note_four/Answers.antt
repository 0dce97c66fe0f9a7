use Rattle.recovery.proofs.Common.{IsCell, IsTableTo, arith, on_ok_weaker, place_at, subst, ℕ, ◌+◌, ◌≡◌}
use Rattle.recovery.proofs.reading.note_four.Goals as goal

pub returns-clause-noted : goal.returns-clause-noted
returns-clause-noted c =
    on_ok_weaker c.note_pair-2.result
    (λ h n cells is_first is_second is_third is_fourth r.
    let d = c.args.spot.0 in
    let b = c.args.spot.1 in
    let k = c.args.index in
    let room = c.args.room.now in
    let told = c.contents_of_four-first.ensures in
    let third : k + 3 ≡ k + 2 + 1 = omega arith in
    let end : k + 2 + 2 ≡ k + 4 = omega arith in
    let half = c.in_default.ensures.noted n cells room.first room.second told.first told.second is_first is_second r in
    subst (λ (j : ℕ). IsTableTo n d b j cells c.note_pair-2.new.table) end
    (h n cells room.third room.fourth told.third told.fourth is_third
    (subst (λ (j : ℕ). IsCell room.fourth (cells (place_at d b j))) third is_fourth) half))
    c.note_pair-2.ensures.noted
