use Rattle.ufsim.proofs.images.save.Goals as goal

pub returns : goal.returns
returns g c =
    let sizes = c.sizes-sizes.result in
    (sizes.dies, sizes.blocks, sizes.pages, (c.dies.result.now, c.in_ok-write_image.ensures))
