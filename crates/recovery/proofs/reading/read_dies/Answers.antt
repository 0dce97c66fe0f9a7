use Rattle.recovery.proofs.Common.{DieState, IsJoined, IsTableOf, ShowsDie, ap, arith, get_or, length, map, mark_of}
use Rattle.recovery.proofs.Common.{refl, rules, subst, sym, ℕ, ◌+◌, ◌<◌, ◌∙◌, ◌≡◌}
use Rattle.std.proofs.Common.{option_map}
use Rattle.recovery.proofs.tables.Counts.{counts_stay, fault_of_later, fault_of_one, map_stays, no_lower}
use Rattle.recovery.proofs.tables.Counts.{no_lower_after}
use Rattle.recovery.proofs.tables.Joined.{dies_joined}
use Rattle.recovery.proofs.tables.Shown.{as_long, size_at, state_at}
use Rattle.recovery.proofs.tables.Whole.{none_read}
use Rattle.recovery.proofs.reading.read_dies.Goals as goal

pub loop-index-init : goal.loop-index-init
loop-index-init g c = record {
  same = refl;
  counted = no_lower (map g.D.Die.failed c.args.dies.now);
  read = λ cells within shown.
      none_read c.args.numbers.now cells c.args.range.0 c.empty-table.result c.empty-table.ensures.pages
      (ap (option_map mark_of) c.empty-table.ensures.newest) c.empty-table.ensures.recorded
      c.empty-table.ensures.marks;
}

pub read_die-requires : goal.read_die-requires
read_die-requires g c =
    let long = as_long g.D.Die.state c.loop-index.dies c.args.dies.now c.loop-index.invariant.same in
    let inside : c.from.result < length c.loop-index.dies =
    omega (arith, c.from.ensures, c.loop-index-test.true, c.requires.numbered, long) in
    size_at g.D.Die.state c.loop-index.dies (map g.D.Die.state c.args.dies.now) c.args.numbers.now.blocks
    c.args.numbers.now.pages c.from.result c.index-dies-from.result c.loop-index.invariant.same inside
    c.requires.sizes

pub returns-in-Err-clause-same : goal.returns-in-Err-clause-same
returns-in-Err-clause-same g c =
    map_stays g.D.Die.state c.loop-index.dies c.from.result c.index-dies-from.result c.read_die.new.die
    c.read_die.ensures.same
    ∙ c.loop-index.invariant.same

pub returns-in-Err-clause-counted : goal.returns-in-Err-clause-counted
returns-in-Err-clause-counted g c =
    no_lower_after (map g.D.Die.failed c.args.dies.now) (map g.D.Die.failed c.loop-index.dies) _
    c.loop-index.invariant.counted
    (counts_stay g.D.Die.failed c.loop-index.dies c.from.result c.index-dies-from.result c.read_die.new.die
    c.read_die.ensures.counted)

pub returns-in-Err-clause-fault : goal.returns-in-Err-clause-fault
returns-in-Err-clause-fault g c =
    let long = as_long g.D.Die.state c.loop-index.dies c.args.dies.now c.loop-index.invariant.same in
    let inside : c.from.result < length c.loop-index.dies =
    omega (arith, c.from.ensures, c.loop-index-test.true, c.requires.numbered, long) in
    let number : c.args.range.0 + c.loop-index.index ≡ c.args.range.0 + c.from.result =
    ap (λ (i : ℕ). c.args.range.0 + i) (sym c.from.ensures) in
    fault_of_later c.args.range.0 (map g.D.Die.failed c.args.dies.now) (map g.D.Die.failed c.loop-index.dies) _
    c.in-Err.fault c.loop-index.invariant.counted
    (fault_of_one g.D.Die.failed c.loop-index.dies c.args.range.0 c.from.result
    (c.args.range.0 + c.loop-index.index) c.index-dies-from.result c.read_die.new.die c.in-Err.fault number inside
    c.in-Err.ensures.fault)

pub returns-then-is_err-clause-same : goal.returns-then-is_err-clause-same
returns-then-is_err-clause-same g c =
    map_stays g.D.Die.state c.loop-index.dies c.from.result c.index-dies-from.result c.read_die.new.die
    c.read_die.ensures.same
    ∙ c.loop-index.invariant.same

pub returns-then-is_err-clause-counted : goal.returns-then-is_err-clause-counted
returns-then-is_err-clause-counted g c =
    no_lower_after (map g.D.Die.failed c.args.dies.now) (map g.D.Die.failed c.loop-index.dies) _
    c.loop-index.invariant.counted
    (counts_stay g.D.Die.failed c.loop-index.dies c.from.result c.index-dies-from.result c.read_die.new.die
    c.read_die.ensures.counted)

pub loop-index-preserved : goal.loop-index-preserved
loop-index-preserved g c =
    let before = c.loop-index.invariant in
    let long = as_long g.D.Die.state c.loop-index.dies c.args.dies.now before.same in
    let inside : c.from.result < length c.loop-index.dies =
    omega (arith, c.from.ensures, c.loop-index-test.true, c.requires.numbered, long) in
    let joined : IsJoined c.loop-index.table c.in-Ok.part c.join.new.self = search rules in
    record {
      same =
          map_stays g.D.Die.state c.loop-index.dies c.from.result c.index-dies-from.result c.read_die.new.die
          c.read_die.ensures.same
          ∙ before.same;
      counted =
          no_lower_after (map g.D.Die.failed c.args.dies.now) (map g.D.Die.failed c.loop-index.dies) _ before.counted
          (counts_stay g.D.Die.failed c.loop-index.dies c.from.result c.index-dies-from.result
          c.read_die.new.die c.read_die.ensures.counted);
      read = λ cells within shown.
          let state : DieState =
          g.D.Die.state (get_or c.loop-index.dies c.from.result c.index-dies-from.result) in
          let at = state_at g.D.Die.state c.loop-index.dies (map g.D.Die.state c.args.dies.now) c.from.result
          c.index-dies-from.result before.same inside in
          dies_joined c.args.numbers.now cells c.args.range.0 c.loop-index.index 1 c.loop-index.table c.in-Ok.part
          c.join.new.self (before.read cells within shown)
          (c.in-Ok.ensures.read cells within
          (subst (λ (i : ℕ). ShowsDie (c.args.range.0 + i) state cells) c.from.ensures (shown c.from.result state at)))
          joined;
    }

pub returns-clause-read : goal.returns-clause-read
returns-clause-read g c = λ cells within shown.
    let end : c.loop-index.index ≡ length c.args.dies.now =
    omega (arith, c.loop-index-test.false, c.loop-index.auto.index-end, c.requires.numbered) in
    subst (λ (k : ℕ). IsTableOf c.args.numbers.now c.args.range.0 k cells c.loop-index.table) end
    (c.loop-index.invariant.read cells within shown)
