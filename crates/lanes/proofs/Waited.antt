-- A host that asks once more.
use Rattle.lanes.proofs.Common.{Bool, Did, DieState, List, View, false, shown, subst, suc, ℕ, ◌≡◌}
use Rattle.std.specs.Prelude.{None}
use Rattle.lanes.specs.Waiting.{AskedInVain}
use Rattle.lanes.specs.declared.view.Made.TheVariants as made

pub asked_more : {D : Type 0} (state : D → DieState) (v u w : View D) (due : Bool) (bytes : List ℕ) →
    AskedInVain state v u → due ≡ false → Did state u (made.Reply (shown due bytes)) None w → AskedInVain state v w
asked_more state v u w due bytes asked none did =
    (suc asked.0, (u, asked.1, subst (λ (b : Bool). Did state u (made.Reply (shown b bytes)) None w) none did))
