use Rattle.device.proofs.Common.{arith, ◌∙◌}
use Rattle.device.proofs.dies_of_world.BlockWritten.{next_written, pages_many}
use Rattle.device.proofs.leftovers.set_block.Goals as goal
use Rattle.device.proofs.leftovers.set_block.Goals.{then-page-pages, else-page-pages}

pub loop-index-preserved : goal.loop-index-preserved
loop-index-preserved c =
    elim c.if-page-pages.branch [
      | then-page-pages w ↦
          w.die-is
          ∙ next_written c.args.die.now c.loop-index.die w.set_page.new.self c.args.block c.args.pages.now
          c.loop-index.index _ c.loop-index.invariant w.set_page.ensures c.requires.there c.requires.as_many
          w.if-page-pages.true
      | else-page-pages w ↦
          let many = pages_many c.args.die.now c.args.block c.pages-index-end.result c.requires.there
          c.pages-index-end.ensures in
          let as_many = c.requires.as_many in
          let less = c.loop-index-test.true in
          let past = w.if-page-pages.false in absurd (omega arith)
    ]
