use Rattle.page_tag.proofs.Sealed.{reopens}
use Rattle.page_tag.proofs.page.reopened.Goals as goal

pub returns : goal.returns
returns c =
    reopens c.seal.result c.args.tag.now c.args.body.now c.open.result c.seal.ensures c.requires
    c.open.ensures.sealed c.open.ensures.refused
