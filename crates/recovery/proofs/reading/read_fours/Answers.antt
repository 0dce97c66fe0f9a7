use Rattle.recovery.proofs.Common.{DieState, IsTableTo, LiesOnDie, ShowsDie, arith, refl, subst, sym, ℕ, ◌*◌, ◌+◌, ◌/◌}
use Rattle.recovery.proofs.Common.{◌∙◌, ◌≡◌}
use Rattle.recovery.proofs.tables.Counts.{block_fault_later, lies_there}
use Rattle.recovery.proofs.reading.read_fours.Goals as goal

pub loop-four-init : goal.loop-four-init
loop-four-init g c = record {
  same = refl;
  counted = omega arith;
  read = λ cells shown r. r;
}

pub read_four-requires-clause-inside : goal.read_four-requires-clause-inside
read_four-requires-clause-inside g c =
    subst (λ (die : DieState). LiesOnDie die c.args.spot.1 (c.loop-four.four * 4 + 3))
    (sym c.loop-four.invariant.same)
    (lies_there c.args.numbers.now (g.D.Die.state c.args.die.now) c.args.spot.1 (c.loop-four.four * 4 + 3)
    c.requires.size c.requires.inside (omega (arith, c.loop-four-test.true)))

pub loop-four-preserved : goal.loop-four-preserved
loop-four-preserved g c =
    let before = c.loop-four.invariant in
    record {
      same = c.read_four.ensures.same ∙ before.same;
      counted = omega (arith, before.counted, c.read_four.ensures.counted);
      read = λ cells shown r.
          let n = c.args.numbers.now in
          let still = subst (λ (die : DieState). ShowsDie c.args.spot.0 die cells) (sym before.same) shown in
          let next : c.loop-four.four * 4 + 4 ≡ (c.loop-four.four + 1) * 4 = omega arith in
          subst (λ (k : ℕ). IsTableTo n c.args.spot.0 c.args.spot.1 k cells c.read_four.new.table) next
          (c.in_default.ensures.read n cells still (before.read cells shown r));
    }

pub returns-in-Err : goal.returns-in-Err
returns-in-Err g c =
    let before = c.loop-four.invariant in
    record {
      same = c.read_four.ensures.same ∙ before.same;
      counted = omega (arith, before.counted, c.read_four.ensures.counted);
      read = tt;
      fault =
          block_fault_later c.args.spot.0 c.args.spot.1 (g.D.Die.failed c.args.die.now) (g.D.Die.failed c.loop-four.die)
          (g.D.Die.failed c.read_four.new.die) c.in-Err.fault before.counted c.in-Err.ensures.fault;
    }

pub returns : goal.returns
returns g c =
    let before = c.loop-four.invariant in
    record {
      same = before.same;
      counted = before.counted;
      read = λ cells shown r.
          let n = c.args.numbers.now in
          let end : c.loop-four.four * 4 ≡ n.pages / 4 * 4 =
          omega (arith, c.loop-four-test.false, c.loop-four.auto.four-end) in
          subst (λ (k : ℕ). IsTableTo n c.args.spot.0 c.args.spot.1 k cells c.loop-four.table) end
          (before.read cells shown r);
      fault = tt;
    }
