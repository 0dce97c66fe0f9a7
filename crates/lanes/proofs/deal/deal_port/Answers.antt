use Rattle.lanes.proofs.Common.{Kept, Splits, rules, subst, sym, ℕ}
use Rattle.lanes.specs.Rule.{new_port, port_dealt}
use Rattle.lanes.proofs.Dealing.{deals_port}
use Rattle.lanes.proofs.deal.deal_port.Goals as goal

pub split_seat-requires : goal.split_seat-requires
split_seat-requires g c =
    let seat = c.args.dealer.now in (
      search rules,
      search rules,
      subst (λ (n : ℕ). Splits (Kept g.D.Die.state c.args.core.now.key) n seat.me.0
          (port_dealt seat.me.0) (new_port seat.me.0)) (sym c.requires.1) (deals_port g.D.Die.state c.args.core.now.key
          seat.me.0),
    )
