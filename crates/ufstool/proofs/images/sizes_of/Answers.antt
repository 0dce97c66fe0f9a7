use Rattle.std.proofs.Common.{◌≡◌, ◌∙◌, ap, subst, sym, take}
use Rattle.std.proofs.lemmas.Bool.{false≢true}
use Rattle.ufstool.specs.Images.{AreInRange, head_bytes}
use Rattle.ufstool.proofs.images.sizes_of.Goals as goal

pub returns-else-is_head-clause-wrong : goal.returns-else-is_head-clause-wrong
returns-else-is_head-clause-wrong c = λ s in_range is.
    let whole : c.in_ok-whole.whole.now ≡ head_bytes s = c.in_ok-whole.ensures.cases.same ∙ ap (take 14) is in
    let same = c.sizes_in-sizes.ensures s in_range whole in
    false≢true
    (sym c.if-is_head.false ∙ c.is_head.ensures.1 (whole ∙ ap head_bytes (sym same), subst AreInRange (sym same) in_range))
