use Rattle.lanes.proofs.Common.{All, IsDealer, IsNewLane, None, Some, Undealt, [], ap, append-nil, arc_value, arith}
use Rattle.lanes.proofs.Common.{length, refl, rules, subst, sym, ◌++◌, ◌+◌, ◌∙◌, ◌∷◌, ◌≡◌}
use Rattle.std.proofs.lemmas.List.Elements.{All-append}
use Rattle.lanes.specs.Rule.{lane_at}
use Rattle.lanes.proofs.Dealing.{all_front, all_last, all_none, all_one, gone_more, next_die}
use Rattle.lanes.proofs.shared.deal_lanes.Goals as goal

pub loop-die-init : goal.loop-die-init
loop-die-init g c = (
  search rules,
  refl,
  search rules,
  search rules,
  c.requires.boards.1,
  ([], sym (append-nil _)),
  search rules,
  refl,
  all_none (IsNewLane c.args.dealer.now.me.0.opening (arc_value c.args.board.now).shared.table_id)
      c.args.lanes.items c.requires.room.0,
)

pub new_lane-lane-requires-clause-dealer : goal.new_lane-lane-requires-clause-dealer
new_lane-lane-requires-clause-dealer g c =
    let board : arc_value c.in-Some-pop.board ≡ arc_value c.args.board.now = all_last (λ b. arc_value b ≡ arc_value
    c.args.board.now) _ c.in-Some-pop.board (subst (All (λ b. arc_value b ≡ arc_value c.args.board.now))
    c.in-Some-pop.ensures.items c.loop-die.invariant.4) in
    subst (λ (b : _). IsDealer b.shared.table_id c.loop-die.dealer) (sym board) c.loop-die.invariant.0

pub new_lane-lane-requires-clause-next : goal.new_lane-lane-requires-clause-next
new_lane-lane-requires-clause-next g c =
    let i = c.loop-die.invariant in
    let n : length c.pop.new.self.items ≡ c.len.result = search rules in
    let long : length c.loop-die.dies.items ≡ length c.pop.new.self.items + 1 = search rules in (
      i.2 ∙ long ∙ ap (λ k. k + 1) n,
      subst (λ k. lane_at c.loop-die.dealer.me.0.opening k ≡ Some record {
        die = k;
        content = c.in-Some.die;
        job = None;
      }) n
          (next_die c.loop-die.dealer.me.0.opening c.args.dies.items c.loop-die.dies.items c.pop.new.self.items i.5.0
          c.in-Some.die
          (subst (λ (o : _). Undealt o c.args.dies.items) (sym i.1) c.requires.dies.0) i.5.1 c.in-Some.ensures.items),
    )

pub loop-die-preserved : goal.loop-die-preserved
loop-die-preserved g c =
    let i = c.loop-die.invariant in
    let board : arc_value c.in-Some-pop.board ≡ arc_value c.args.board.now = all_last (λ b. arc_value b ≡ arc_value
    c.args.board.now) _ c.in-Some-pop.board (subst (All (λ b. arc_value b ≡ arc_value c.args.board.now))
    c.in-Some-pop.ensures.items i.4) in
    let n : c.len.result ≡ length c.pop.new.self.items = search rules in
    let long : length c.loop-die.dies.items ≡ length c.pop.new.self.items + 1 = search rules in
    let more : length c.loop-die.boards.items ≡ length c.pop-in-Some.new.self.items + 1 = search rules in
    let made = c.new_lane-lane.ensures in
    let count = i.6 in
    let boards = i.3 in
    let items : c.push_reserved.new.self.items ≡ c.loop-die.lanes.items ++ c.new_lane-lane.result ∷ [] = search rules in
    let new : IsNewLane c.args.dealer.now.me.0.opening (arc_value c.args.board.now).shared.table_id
    c.new_lane-lane.result =
    subst (λ (o : _). IsNewLane o (arc_value c.args.board.now).shared.table_id c.new_lane-lane.result) i.1
    (subst (λ (b : _). IsNewLane c.loop-die.dealer.me.0.opening b.shared.table_id c.new_lane-lane.result) board
    made.lane.0) in (
      subst (λ (b : _). IsDealer b.shared.table_id c.new_lane-lane.new.dealer) board made.dealer,
      made.view.0 ∙ i.1,
      made.view.1 ∙ n,
      omega arith,
      all_front (λ b. arc_value b ≡ arc_value c.args.board.now) _ c.in-Some-pop.board (subst (All (λ b. arc_value b ≡
          arc_value c.args.board.now)) c.in-Some-pop.ensures.items i.4),
      (
        c.in-Some.die ∷ i.5.0,
        gone_more c.args.dies.items c.loop-die.dies.items c.pop.new.self.items i.5.0
            c.in-Some.die i.5.1 c.in-Some.ensures.items,
      ),
      search rules,
      search rules,
      subst (All (IsNewLane c.args.dealer.now.me.0.opening (arc_value c.args.board.now).shared.table_id)) (sym items)
          (All-append (IsNewLane c.args.dealer.now.me.0.opening (arc_value c.args.board.now).shared.table_id)
          c.loop-die.lanes.items (c.new_lane-lane.result ∷ []) i.8
          (all_one (IsNewLane c.args.dealer.now.me.0.opening (arc_value c.args.board.now).shared.table_id)
          c.new_lane-lane.result new)),
    )
