use Rattle.lanes.proofs.Common.{DeviceCore, Kept, Opening, [], ap, subst, sym, ◌∙◌, ◌∷◌}
use Rattle.atomic_table.specs.Table as table
use Rattle.lanes.specs.Rule.{IsOpeningOf, first_view}
use Rattle.lanes.proofs.Dealing.{opens}
use Rattle.lanes.proofs.shared.open_board.Goals as goal

pub new-requires : goal.new-requires
new-requires g c =
    let o : Opening g.row.D.Denot = record { device = c.of.result; dies = c.of-2.result } in
    let state = g.D.Die.state in
    subst (λ (xs : _). Kept state o (table.opening (0 ∷ []) xs (first_view o))) (ap (λ (d : DeviceCore). d ∷ [])
    c.of.ensures ∙ sym c.in_ok-slots.ensures)
    (opens state o
    (subst (λ (d : DeviceCore). IsOpeningOf state d c.of-2.result.value.items) (sym c.of.ensures)
    (subst (λ (ds : _). IsOpeningOf state c.args.device ds.items) (sym c.of-2.ensures) c.requires)))
