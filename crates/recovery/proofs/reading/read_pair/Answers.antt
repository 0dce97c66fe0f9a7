use Rattle.recovery.proofs.Common.{DieState, IfErr-weaker, LiesOnDie, ap, arith, on_ok_weaker, page_at, subst, sym, ◌+◌}
use Rattle.recovery.proofs.Common.{◌∙◌}
use Rattle.recovery.proofs.tables.Counts.{block_fault_later, fault_of_page}
use Rattle.recovery.proofs.reading.read_pair.Goals as goal

pub read_into-requires : goal.read_into-requires
read_into-requires g c = (c.requires.inside.0, omega (arith, c.requires.inside.1))

pub read_into-requires-2 : goal.read_into-requires-2
read_into-requires-2 g c =
    subst (λ (die : DieState). LiesOnDie die c.args.spot.1 (c.args.index + 1)) (sym c.read_into.ensures.same)
    c.requires.inside

pub returns-in-Err-clause-fault : goal.returns-in-Err-clause-fault
returns-in-Err-clause-fault g c =
    fault_of_page c.args.spot.0 c.args.spot.1 c.args.index (g.D.Die.failed c.args.die.now)
    (g.D.Die.failed c.read_into.new.die) c.in-Err.fault c.in-Err.ensures.fault

pub returns : goal.returns
returns g c =
    let same = c.read_into.ensures.same in
    record {
      same = c.read_into-2.ensures.same ∙ same;
      counted = omega (arith, c.read_into.ensures.counted, c.read_into-2.ensures.counted);
      one = on_ok_weaker c.read_into-2.result (λ _. c.in_default.ensures.found) c.read_into-2.ensures.found;
      next =
          on_ok_weaker c.read_into-2.result
          (λ h. h ∙ ap (λ (die : DieState). page_at die c.args.spot.1 (c.args.index + 1)) same)
          c.read_into-2.ensures.found;
      fault =
          IfErr-weaker c.read_into-2.result _ _
          (λ e h. block_fault_later c.args.spot.0 c.args.spot.1 (g.D.Die.failed c.args.die.now)
          (g.D.Die.failed c.read_into.new.die) (g.D.Die.failed c.read_into-2.new.die) e c.read_into.ensures.counted
          (fault_of_page c.args.spot.0 c.args.spot.1 (c.args.index + 1) (g.D.Die.failed c.read_into.new.die)
          (g.D.Die.failed c.read_into-2.new.die) e h))
          c.read_into-2.ensures.fault;
    }
