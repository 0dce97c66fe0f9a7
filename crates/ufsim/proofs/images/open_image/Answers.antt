use Rattle.ufsim.proofs.ImageLemmas.{some_image}
use Rattle.ufsim.proofs.images.open_image.Goals as goal

pub returns : goal.returns
returns g c =
    let sizes = c.sizes.result in
    some_image (g.I.Read.remaining c.args.image.now) sizes.dies sizes.blocks sizes.pages c.in_ok-dies.ensures.image
