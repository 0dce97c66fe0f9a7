use Rattle.lanes.proofs.Common.{Kept, None, View, ap, rules, subst, sym, ◌∙◌, ◌≡◌}
use Rattle.atomic_table.specs.Table.{Joins}
use Rattle.lanes.specs.Rule.{both, messenger, spent}
use Rattle.lanes.proofs.Telling.{hears, looks, tells}
use Rattle.lanes.proofs.meeting.tell.Goals as goal

pub split_seat-messenger-requires : goal.split_seat-messenger-requires
split_seat-messenger-requires g c = (
  search rules,
  search rules,
  tells g.D.Die.state c.args.core.now.key
      c.args.from.now.id c.args.from.now.me.0,
)

pub join_seat-requires : goal.join_seat-requires
join_seat-requires g c =
    let to = c.args.to.now in
    let sent = c.split_seat-messenger in
    let is : sent.result.me.0 ≡ messenger c.args.from.now.me.0.seen = search rules in (
      search rules,
      search rules,
      search rules,
      search rules,
      subst (λ (w : View g.row.D.Denot). Joins (Kept g.D.Die.state c.args.core.now.key) to.id to.me.0 sent.result.id w
          (both to.me.0 w) spent) (sym is)
          (hears g.D.Die.state c.args.core.now.key to.id to.me.0 sent.result.id c.args.from.now.me.0.seen
          c.requires.to.1.0 c.requires.to.1.1),
    )

pub load-requires : goal.load-requires
load-requires g c =
    let seat = c.join_seat.new.seat in
    let is : seat.me.0 ≡ both c.args.to.now.me.0 c.split_seat-messenger.result.me.0 = search rules in
    let rests : seat.me.0.held ≡ None = ap (λ (v : View g.row.D.Denot). v.held) is ∙ c.requires.to.1.1 in (
      search rules,
      search rules,
      looks g.D.Die.state c.args.core.now.key c.args.core.now.table_id.slots seat.id
          seat.me.0 seat.me.1 rests,
    )
