use Rattle.std.proofs.Common.{◌≡◌, ◌+◌, rules, take}
use Rattle.std.specs.Prelude.{slice_index_or}
use Rattle.std.proofs.lemmas.List.{take_all}
use Rattle.ufsim.specs.Images.{head_bytes}
use Rattle.ufsim.proofs.ImageLemmas.{all_written, appends_more, dies_more, front_more}
use Rattle.ufsim.proofs.image.write_image.Goals as goal

pub loop-die-preserved : goal.loop-die-preserved
loop-die-preserved g c =
    let dies = c.args.dies.now in
    let at = c.loop-die.die-index in
    let item : slice_index_or dies at c.die-item.result ≡ c.die-item.result = search rules in
    let head = head_bytes c.args.sizes.dies c.args.sizes.blocks c.args.sizes.pages in
    appends_more _ _ _ _ _ _ c.loop-die.invariant c.in_ok-write_die.ensures
    (dies_more head (take at dies) (take (at + 1) dies) c.die-item.result
    (front_more dies at c.die-item.result c.loop-die-test.true item))

pub returns : goal.returns
returns g c =
    let head = head_bytes c.args.sizes.dies c.args.sizes.blocks c.args.sizes.pages in
    all_written _ _ _ head _ _ (take_all c.loop-die.die-index c.args.dies.now c.loop-die-test.false) c.loop-die.invariant
    c.flush.ensures.bytes
