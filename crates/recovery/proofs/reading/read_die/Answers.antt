use Rattle.recovery.proofs.Common.{DieState, IsOfSize, IsTableTo, ShowsDie, ap, arith, mark_of, refl, subst, sym, ℕ}
use Rattle.recovery.proofs.Common.{◌∙◌, ◌≡◌}
use Rattle.std.proofs.Common.{option_map}
use Rattle.recovery.proofs.tables.Counts.{die_fault_later, fault_of_block}
use Rattle.recovery.proofs.tables.Whole.{die_read, nothing_read, only, only_before, only_shown, only_within}
use Rattle.recovery.proofs.reading.read_die.Goals as goal

pub loop-block-init : goal.loop-block-init
loop-block-init g c = record {
  same = refl;
  counted = omega arith;
  read = λ cells within shown.
      nothing_read c.args.numbers.now (only c.args.number cells) c.args.number c.empty-table.result
      (only_before c.args.number cells) c.empty-table.ensures.pages
      (ap (option_map mark_of) c.empty-table.ensures.newest)
      c.empty-table.ensures.recorded c.empty-table.ensures.marks;
}

pub read_block-requires-clause-size : goal.read_block-requires-clause-size
read_block-requires-clause-size g c =
    subst (IsOfSize c.args.numbers.now.blocks c.args.numbers.now.pages) (sym c.loop-block.invariant.same) c.requires

pub loop-block-preserved : goal.loop-block-preserved
loop-block-preserved g c =
    let before = c.loop-block.invariant in
    record {
      same = c.read_block.ensures.same ∙ before.same;
      counted = omega (arith, before.counted, c.read_block.ensures.counted);
      read = λ cells within shown.
          let d = c.args.number in
          let still = subst (λ (die : DieState). ShowsDie d die (only d cells)) (sym before.same)
          (only_shown d (g.D.Die.state c.args.die.now) cells shown) in
          c.in_default.ensures.read (only d cells) (only_within c.args.numbers.now d cells within) still
          (before.read cells within shown);
    }

pub returns-in-Err : goal.returns-in-Err
returns-in-Err g c =
    let before = c.loop-block.invariant in
    record {
      same = c.read_block.ensures.same ∙ before.same;
      counted = omega (arith, before.counted, c.read_block.ensures.counted);
      read = tt;
      fault =
          die_fault_later c.args.number (g.D.Die.failed c.args.die.now) (g.D.Die.failed c.loop-block.die)
          (g.D.Die.failed c.read_block.new.die) c.in-Err.fault before.counted
          (fault_of_block c.args.number c.loop-block.block (g.D.Die.failed c.loop-block.die)
          (g.D.Die.failed c.read_block.new.die) c.in-Err.fault c.in-Err.ensures.fault);
    }

pub returns-clause-read : goal.returns-clause-read
returns-clause-read g c = λ cells within shown.
    let n = c.args.numbers.now in
    let end : c.loop-block.block ≡ n.blocks = omega (arith, c.loop-block-test.false, c.loop-block.auto.block-end) in
    die_read n cells within c.args.number c.loop-block.table
    (subst (λ (b : ℕ). IsTableTo n c.args.number b 0 (only c.args.number cells) c.loop-block.table) end
    (c.loop-block.invariant.read cells within shown))
