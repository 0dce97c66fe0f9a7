use Rattle.recovery.proofs.Common.{DieState, IsTableTo, LiesOnDie, ShowsDie, arith, page_at, place_at, refl, subst, sym}
use Rattle.recovery.proofs.Common.{ℕ, ◌∙◌, ◌≡◌}
use Rattle.recovery.proofs.tables.Counts.{block_fault_later, lies_there}
use Rattle.recovery.proofs.tables.Whole.{block_read, page_read}
use Rattle.recovery.proofs.reading.read_rest.Goals as goal

pub loop-index-init : goal.loop-index-init
loop-index-init g c = record {
  same = refl;
  counted = omega arith;
  read = λ cells within shown r. r;
}

pub read_page-requires : goal.read_page-requires
read_page-requires g c =
    subst (λ (die : DieState). LiesOnDie die c.args.spot.1 c.loop-index.index) (sym c.loop-index.invariant.same)
    (lies_there c.args.numbers.now (g.D.Die.state c.args.die.now) c.args.spot.1 c.loop-index.index c.requires.size
    c.requires.inside c.loop-index-test.true)

pub loop-index-preserved : goal.loop-index-preserved
loop-index-preserved g c =
    let before = c.loop-index.invariant in
    record {
      same = c.read_page.ensures.same ∙ before.same;
      counted = omega (arith, before.counted, c.read_page.ensures.counted);
      read = λ cells within shown r.
          let place = place_at c.args.spot.0 c.args.spot.1 c.loop-index.index in
          let now = before.read cells within shown r in
          let still = subst (λ (die : DieState). ShowsDie c.args.spot.0 die cells) (sym before.same) shown in
          let told = c.in_default.ensures.read cells still in
          page_read c.args.numbers.now cells c.args.spot.0 c.args.spot.1 c.loop-index.index c.loop-index.table
          c.read_page.new.table (page_at (g.D.Die.state c.args.die.now) c.args.spot.1 c.loop-index.index) now
          (shown place refl) told;
    }

pub returns-in-Err : goal.returns-in-Err
returns-in-Err g c =
    let before = c.loop-index.invariant in
    record {
      same = c.read_page.ensures.same ∙ before.same;
      counted = omega (arith, before.counted, c.read_page.ensures.counted);
      read = tt;
      fault =
          block_fault_later c.args.spot.0 c.args.spot.1 (g.D.Die.failed c.args.die.now) (g.D.Die.failed c.loop-index.die)
          (g.D.Die.failed c.read_page.new.die) c.in-Err.fault before.counted c.in-Err.ensures.fault;
    }

pub returns : goal.returns
returns g c =
    let before = c.loop-index.invariant in
    record {
      same = before.same;
      counted = before.counted;
      read = λ cells within shown r.
          let n = c.args.numbers.now in
          let spot = c.args.spot in
          let table = c.loop-index.table in
          let now = before.read cells within shown r in
          let end : c.loop-index.index ≡ n.pages =
          omega (arith, c.loop-index-test.false, c.loop-index.auto.index-end) in
          block_read n cells within spot.0 spot.1 table
          (subst (λ (k : ℕ). IsTableTo n spot.0 spot.1 k cells table) end now);
      fault = tt;
    }
