use Rattle.lanes.proofs.Common.{Allows, DeviceCore, DieState, Kept, LaneView, Made, Me, Meets, Option, Stepped, View}
use Rattle.lanes.proofs.Common.{arith, rules, subst, sym, true, ℕ, ◌<◌, ◌≡◌}
use Rattle.lanes.specs.Rule.{IsAt}
use Rattle.lanes.proofs.Back.{puts_back}
use Rattle.lanes.proofs.place.put_back.Goals as goal

back_at : {D : Type 0} (state : D →
    DieState) (opening : _) (slots id : ℕ) (m : Me DeviceCore (View D)) (step : Made) (lane' : Option (LaneView D)) →
    0 < slots → m.0.steps ≡ true
    → IsAt m (λ before after. Meets state before step after m.0.lane lane') →
    Allows (Kept state opening) slots id m 0 (λ _. 0) (λ _. Stepped state m.0 step lane')
back_at state opening slots id m step lane' wide steps at =
    subst (λ (l : _). Allows (Kept state opening) slots id (m.0, l) 0 (λ _. 0) (λ _. Stepped state m.0 step lane'))
    (sym at.3) (puts_back state opening slots id m.0 at.0 at.1 step lane' wide steps at.2 at.4)

pub store-requires : goal.store-requires
store-requires g c =
    let core = c.args.core.now in
    let seat = c.args.seat.now in (
      search rules,
      search rules,
      back_at g.D.Die.state core.key core.table_id.slots seat.id seat.me g.W.Said.made
          g.W.Said.lane (let one = c.requires.own.2 in omega arith) c.requires.steps c.requires.step,
    )
