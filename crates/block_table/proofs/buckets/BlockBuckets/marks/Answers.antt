use Rattle.block_table.proofs.Common.{get_or, subst, ℕ, ◌*◌, ◌+◌, ◌<◌, ◌≡◌}
use Rattle.block_table.proofs.Marks.{marks_read}
use Rattle.block_table.proofs.buckets.BlockBuckets.marks.Goals as goal

pub returns : goal.returns
returns c =
    let groups = c.words_for-groups.ensures in
    let word = c.index.result.now in
    marks_read c.self.inside.words c.self.inside.table.items c.self.inside.marks.items c.self.inside.held.items
    c.args.self.now c.args.bucket c.args.group word c.self.view_is c.requires c.self.invariant.level
    c.self.invariant.marked (subst (λ (n : ℕ). c.args.group < n) groups c.if-group-groups.false)
    (subst (λ (n : ℕ). word ≡ get_or c.self.inside.marks.items (c.args.bucket * n + c.args.group) word) groups
    c.index.ensures)
