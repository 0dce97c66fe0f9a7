use Rattle.lanes.proofs.Common.{All, IsNewLane, IsNewPort, ap, arc_value, arith, subst, sym, ◌∙◌, ◌≡◌}
use Rattle.lanes.proofs.Opened.{few_dies, undealt_opened}
use Rattle.lanes.proofs.shared.Shared.new.Goals as goal

pub deal_lanes-lanes-requires-clause-dies : goal.deal_lanes-lanes-requires-clause-dies
deal_lanes-lanes-requires-clause-dies g c =
    let few = few_dies g.D.Die.state c.args.device c.args.dies.items c.requires in
    (undealt_opened c.in-Ok.prepared.dealer.me.0.opening _ c.args.dies.items c.in-Ok.ensures.opening, omega arith)

pub returns-clause-ports : goal.returns-clause-ports
returns-clause-ports g c =
    let p = c.in-Ok.ensures.ports in
    let seat = c.deal_port-seat.ensures.seat in
    let opening : c.in-Ok.prepared.dealer.me.0.opening ≡ c.deal_port-seat.result.me.0.opening = sym
    c.deal_lanes-lanes.ensures.dealer.1 ∙ sym (ap (λ (m : _). m.0.opening) seat.1) in
    let id : (arc_value c.in-Ok.prepared.board).shared.table_id ≡ c.deal_port-seat.result.table_id = ap (λ (b : _).
    b.shared.table_id) (sym c.deref.ensures) ∙ sym seat.0.0 in (
      p.0,
      subst (λ (o : _). All (IsNewPort o c.deal_port-seat.result.table_id) c.in-Ok.prepared.ports.items) opening
          (subst (λ (i : _). All (IsNewPort c.in-Ok.prepared.dealer.me.0.opening i) c.in-Ok.prepared.ports.items) id
          p.1),
    )

pub returns-clause-lanes : goal.returns-clause-lanes
returns-clause-lanes g c =
    let p = c.deal_lanes-lanes.ensures.lanes in
    let seat = c.deal_port-seat.ensures.seat in
    let opening : c.in-Ok.prepared.dealer.me.0.opening ≡ c.deal_port-seat.result.me.0.opening = sym
    c.deal_lanes-lanes.ensures.dealer.1 ∙ sym (ap (λ (m : _). m.0.opening) seat.1) in
    let id : (arc_value c.in-Ok.prepared.board).shared.table_id ≡ c.deal_port-seat.result.table_id = ap (λ (b : _).
    b.shared.table_id) (sym c.deref.ensures) ∙ sym seat.0.0 in (
      p.0,
      subst (λ (o : _). All (IsNewLane o c.deal_port-seat.result.table_id) c.deal_lanes-lanes.result.items) opening
          (subst (λ (i : _). All (IsNewLane c.in-Ok.prepared.dealer.me.0.opening i) c.deal_lanes-lanes.result.items) id
          p.1),
    )
