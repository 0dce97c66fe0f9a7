use Rattle.lanes.proofs.Common.{Kept, Splits, rules, subst, sym, ℕ}
use Rattle.lanes.specs.Rule.{lane_dealt, new_lane}
use Rattle.lanes.proofs.Dealing.{deals_lane}
use Rattle.lanes.proofs.deal.deal_lane.Goals as goal

pub split_seat-requires : goal.split_seat-requires
split_seat-requires g c =
    let seat = c.args.dealer.now in (
      search rules,
      search rules,
      subst (λ (n : ℕ). Splits (Kept g.D.Die.state c.args.core.now.key) n seat.me.0
          (lane_dealt seat.me.0) (new_lane seat.me.0)) (sym c.requires.dealer.1) (deals_lane g.D.Die.state
          c.args.core.now.key seat.me.0 c.requires.some),
    )
