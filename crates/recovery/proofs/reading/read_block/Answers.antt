use Rattle.recovery.proofs.Common.{DieState, IfErr-weaker, IsOfSize, ShowsDie, arith, on_ok_weaker, subst, sym, ◌∙◌}
use Rattle.recovery.proofs.tables.Counts.{block_fault_later}
use Rattle.recovery.proofs.reading.read_block.Goals as goal

pub read_rest-requires-clause-size : goal.read_rest-requires-clause-size
read_rest-requires-clause-size g c =
    subst (IsOfSize c.args.numbers.now.blocks c.args.numbers.now.pages) (sym c.read_fours.ensures.same) c.requires.size

pub returns : goal.returns
returns g c = record {
  same = c.read_rest.ensures.same ∙ c.read_fours.ensures.same;
  counted = omega (arith, c.read_fours.ensures.counted, c.read_rest.ensures.counted);
  read =
      on_ok_weaker c.read_rest.result
      (λ h cells within shown r.
      let still = subst (λ (die : DieState). ShowsDie c.args.spot.0 die cells) (sym c.read_fours.ensures.same) shown in
      h cells within still (c.in_default.ensures.read cells shown r))
      c.read_rest.ensures.read;
  fault =
      IfErr-weaker c.read_rest.result _ _
      (λ e h. block_fault_later c.args.spot.0 c.args.spot.1 (g.D.Die.failed c.args.die.now) (g.D.Die.failed c.read_fours.new.die)
      (g.D.Die.failed c.read_rest.new.die) e c.read_fours.ensures.counted h)
      c.read_rest.ensures.fault;
}
