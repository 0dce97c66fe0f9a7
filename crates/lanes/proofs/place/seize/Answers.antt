use Rattle.lanes.proofs.Common.{Allows, DeviceCore, DieState, Kept, Me, View, [], false, rules, subst, sym, true, ℕ}
use Rattle.lanes.proofs.Common.{◌≡◌}
use Rattle.std.proofs.Common.{eqb}
use Rattle.lanes.specs.Rule.{Seized}
use Rattle.lanes.proofs.Moves.{seizes}
use Rattle.lanes.proofs.place.seize.Goals as goal

seizes_at : {D : Type 0} (state : D → DieState) (opening : _) (slots id : ℕ) (m : Me DeviceCore (View D)) →
    m.0.steps ≡ true → m.1 ≡ [] → Allows (Kept state opening) slots id m 0 (λ _. 1) (Seized state m)
seizes_at state opening slots id m steps none = subst (λ (l : _). Allows (Kept state opening) slots id (m.0, l) 0 (λ _.
    1) (Seized state (m.0, l))) (sym none) (seizes state opening slots id m.0 steps)

pub swap-requires : goal.swap-requires
swap-requires g c =
    let core = c.args.core.now in
    let seat = c.args.seat.now in (
      search rules,
      search rules,
      seizes_at g.D.Die.state core.key core.table_id.slots seat.id seat.me c.requires.1.0
          c.requires.1.2,
    )

pub returns-clause-was_out : goal.returns-clause-was_out
returns-clause-was_out g c = λ no. (c.swap.ensures.2.1 (λ (zero : c.swap.result ≡ 0).
    let never : true ≡ false = subst (λ (n : ℕ). eqb n 0 ≡ false) zero no in absurd (cc))).1
