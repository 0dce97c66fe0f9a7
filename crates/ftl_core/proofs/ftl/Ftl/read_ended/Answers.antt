use Rattle.ftl_core.proofs.Common.{Bool, Core, DieRow, IsReadAfter, IsReadOver, None, Option, ap, is_read, rules, subst}
use Rattle.ftl_core.proofs.Common.{sym, true, ◌∙◌, ◌≡◌}
use Rattle.ftl_core.specs.Moves.{flight_set}
use Rattle.ftl_core.proofs.ftl.Ftl.read_ended.Goals as goal

pub returns-clause-after : goal.returns-clause-after
returns-clause-after c =
    let was = c.args.self.now in
    let o = c.args.outcome.now in
    let read : is_read o ≡ true = search rules in
    let idle = c.set_flight.ensures
    ∙ ap (λ (b : Option DieRow). record was { rows = flight_set was.rows c.args.die None b }) c.requires.row in
    let tag = c.args.tag.now in
    subst (λ (b : Bool). IsReadAfter b was c.args.die c.args.row o tag c.args.reader c.give.new.self) (sym read)
    (subst (λ (z : Core). IsReadOver z o tag c.args.reader c.give.new.self) idle c.give.ensures.after)
