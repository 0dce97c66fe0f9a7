use Rattle.recovery.proofs.Common.{arith, map, refl, slice_index_or, slice_set, subst, ℕ, ◌<◌}
use Rattle.recovery.proofs.tables.Counts.{count_rose, counts_stay, map_stays}
use Rattle.recovery.proofs.reading.fetch.Goals as goal

pub returns-in-Ok-clause-same : goal.returns-in-Ok-clause-same
returns-in-Ok-clause-same g c =
    map_stays g.D.Die.state c.args.dies.now c.from.result c.index-dies-from.result c.read.new.self
    c.read.ensures.same

pub returns-in-Ok-clause-counted : goal.returns-in-Ok-clause-counted
returns-in-Ok-clause-counted g c =
    counts_stay g.D.Die.failed c.args.dies.now c.from.result c.index-dies-from.result c.read.new.self
    c.in-Ok.ensures.counted_ok

pub returns-in-Err-clause-same : goal.returns-in-Err-clause-same
returns-in-Err-clause-same g c =
    map_stays g.D.Die.state c.args.dies.now c.from.result c.index-dies-from.result c.read.new.self
    c.read.ensures.same

pub returns-in-Err-clause-counted : goal.returns-in-Err-clause-counted
returns-in-Err-clause-counted g c =
    counts_stay g.D.Die.failed c.args.dies.now c.from.result c.index-dies-from.result c.read.new.self
    (omega (arith, c.in-Err.ensures.counted_err))

pub returns-in-Err-clause-fault : goal.returns-in-Err-clause-fault
returns-in-Err-clause-fault g c = (
  refl,
  subst
      (λ (i : ℕ). slice_index_or (map g.D.Die.failed c.args.dies.now) i 0
      < slice_index_or (map g.D.Die.failed (slice_set c.args.dies.now c.from.result c.read.new.self)) i 0)
      c.from.ensures
      (count_rose g.D.Die.failed c.args.dies.now c.from.result c.index-dies-from.result c.read.new.self
      (omega (arith, c.requires.die, c.from.ensures)) c.in-Err.ensures.counted_err),
)
