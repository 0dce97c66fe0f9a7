use Rattle.block_table.proofs.BucketCounts.{empty_is, held_is, held_one}
use Rattle.block_table.proofs.buckets.BlockBuckets.is_empty.Goals as goal

pub returns-clause-empty : goal.returns-clause-empty
returns-clause-empty c =
    empty_is c.args.self.now c.args.bucket c.index.result.now
    (held_is c.self.inside.words c.self.inside.table.items c.self.inside.held.items c.args.self.now c.args.bucket
    c.index.result.now c.self.view_is c.requires c.self.invariant.counted c.index.ensures)

pub returns-clause-held : goal.returns-clause-held
returns-clause-held c =
    held_one c.args.self.now c.args.bucket c.index.result.now
    (held_is c.self.inside.words c.self.inside.table.items c.self.inside.held.items c.args.self.now c.args.bucket
    c.index.result.now c.self.view_is c.requires c.self.invariant.counted c.index.ensures)
