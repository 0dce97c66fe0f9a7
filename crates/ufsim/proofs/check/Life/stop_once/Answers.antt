use Rattle.std.proofs.Common.{arith, subst, ℕ}
use Rattle.ufsim.specs.Trials.{IsMore}
use Rattle.ufsim.proofs.Counting.{more_none, more_one}
use Rattle.ufsim.proofs.check.Life.stop_once.Goals as goal

pub loop-content-init : goal.loop-content-init
loop-content-init c = more_none c.args.tally.now

pub loop-content-preserved : goal.loop-content-preserved
loop-content-preserved c =
    more_one c.args.tally.now c.loop-content.tally c.try_stop.new.tally c.loop-content.content-index
    c.in_ok-try_stop.ensures.counted.0 c.loop-content.invariant c.in_ok-try_stop.ensures.counted.1

pub returns : goal.returns
returns c = record {
  stops = subst (λ (n : ℕ). IsMore n c.args.tally.now c.loop-content.tally)
      (omega (arith, c.loop-content-test.false, c.loop-content.auto.content-index-end)) c.loop-content.invariant;
}
