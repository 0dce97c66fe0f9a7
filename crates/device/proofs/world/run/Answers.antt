use Rattle.device.proofs.Common.{List, Output, [], ap, arith, length, subst, sym, ◌+◌, ◌∙◌, ◌≡◌, ◌≤◌}
use Rattle.device.specs.Worlds.{IsUnderWay}
use Rattle.device.proofs.dies_of_world.Runs.{MayRun, run_begins, run_breaks, run_broken, run_ends, run_more}
use Rattle.device.proofs.world.run.Goals as goal

pub loop-index-init : goal.loop-index-init
loop-index-init c = record {
  counted = ap length c.new-trace.ensures.items;
  going_on = c.in_ok-world.ensures.idle.2;
  under_way =
      λ sound.
      let may : MayRun c.args.config c.args.dies.items = record {
        fit = c.in_ok-world.ensures.suits.0;
        suits = c.in_ok-world.ensures.suits.1;
      } in
      subst (λ (trace : List Output). IsUnderWay c.args.config c.args.dies.items [] trace c.in_ok-world.world)
      (sym c.new-trace.ensures.items)
      (run_begins c.args.config c.args.dies.items c.in_ok-world.world may sound
      (c.in_ok-world.ensures.fits sound));
}

pub returns-in-Err-clause-broken : goal.returns-in-Err-clause-broken
returns-in-Err-clause-broken c =
    let may : MayRun c.args.config c.args.dies.items = record {
      fit = c.in_ok-world.ensures.suits.0;
      suits = c.in_ok-world.ensures.suits.1;
    } in
    run_broken c.args.config c.args.dies.items c.args.events.now c.loop-index.index _
    (λ sound.
    let u = c.loop-index.invariant.under_way sound in
    run_breaks c.args.config c.args.dies.items c.args.events.now c.loop-index.trace.items c.loop-index.index
    c.index-events-index.result c.loop-index.world _ may sound c.loop-index-test.true
    c.index-events-index.is u
    (c.in-Err.ensures.played u.now u.fits c.loop-index.invariant.going_on))

pub loop-index-preserved : goal.loop-index-preserved
loop-index-preserved c = record {
  counted = c.in_default.ensures.one_more ∙ ap (λ n. n + 1) c.loop-index.invariant.counted;
  going_on = c.in_default.ensures.going_on;
  under_way =
      λ sound.
      let u = c.loop-index.invariant.under_way sound in
      run_more c.args.config c.args.dies.items c.args.events.now c.loop-index.trace.items c.play.new.trace.items
      c.loop-index.index c.index-events-index.result c.loop-index.world c.play.new.self c.loop-index-test.true
      c.index-events-index.is u (c.in_default.ensures.played u.now u.fits c.loop-index.invariant.going_on);
}

pub returns-clause-promised : goal.returns-clause-promised
returns-clause-promised c =
    λ sound.
    let may : MayRun c.args.config c.args.dies.items = record {
      fit = c.in_ok-world.ensures.suits.0;
      suits = c.in_ok-world.ensures.suits.1;
    } in
    let all : length c.args.events.now ≤ c.loop-index.index = c.loop-index-test.false in
    run_ends c.args.config c.args.dies.items c.args.events.now c.loop-index.trace.items c.loop-index.index
    c.loop-index.world may sound all (c.loop-index.invariant.under_way sound)

pub returns-clause-fit : goal.returns-clause-fit
returns-clause-fit c = c.in_ok-world.ensures.suits.0

pub returns-in-Err-clause-counted : goal.returns-in-Err-clause-counted
returns-in-Err-clause-counted c =
    let long : length c.play.new.trace.items ≡ c.loop-index.index =
    ap length c.in-Err.ensures.none_more ∙ c.loop-index.invariant.counted in
    let low = c.loop-index-test.true in
    (omega arith, omega arith)

pub returns-clause-suits : goal.returns-clause-suits
returns-clause-suits c = c.in_ok-world.ensures.suits.1
