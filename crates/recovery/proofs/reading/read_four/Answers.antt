use Rattle.recovery.proofs.Common.{IsCell, Page, on_ok_weaker, place_at, refl, subst, sym, ◌+◌}
use Rattle.recovery.proofs.reading.read_four.Goals as goal

pub returns-clause-read : goal.returns-clause-read
returns-clause-read g c =
    on_ok_weaker c.note_four.result
    (λ h n cells shown r.
    let d = c.args.spot.0 in
    let b = c.args.spot.1 in
    let k = c.args.index in
    let read = c.in_default.ensures in
    h n cells
    (subst (λ (p : Page). IsCell p (cells (place_at d b k))) (sym read.first) (shown (place_at d b k) refl))
    (subst (λ (p : Page). IsCell p (cells (place_at d b (k + 1)))) (sym read.second)
    (shown (place_at d b (k + 1)) refl))
    (subst (λ (p : Page). IsCell p (cells (place_at d b (k + 2)))) (sym read.third)
    (shown (place_at d b (k + 2)) refl))
    (subst (λ (p : Page). IsCell p (cells (place_at d b (k + 3)))) (sym read.fourth)
    (shown (place_at d b (k + 3)) refl))
    r)
    c.note_four.ensures.noted
