use Rattle.std.proofs.Common.{◌∙◌, ap, length, subst}
use Rattle.ufsim.specs.Images.{AreParts, IsBadByte, IsPage, Reads}
use Rattle.ufsim.proofs.ImageLemmas.{consumes_more, joined, then_ok}
use Rattle.ufsim.proofs.ImageParts.{bad_byte_length, pages_marked, reads_rest}
use Rattle.ufs_spec.specs.Dies.{DieState, pages_of}
use Rattle.ufsim.proofs.image.read_block.Goals as goal

pub returns-clause-bytes : goal.returns-clause-bytes
returns-clause-bytes g c =
    let bytes = joined c.args.die.now c.mark.new.die c.read_pages.new.die c.args.block c.in_ok-is_bad.is_bad c.requires.there
    c.requires.long c.requires.good c.mark.ensures c.read_pages.ensures.rest in
    then_ok c.read_pages.result _ _ (λ pages. consumes_more _ _ _ _ _ _ c.in_ok-is_bad.ensures.bytes pages bytes)
    c.read_pages.ensures.bytes

pub returns-clause-kind : goal.returns-clause-kind
returns-clause-kind g c =
    let die = c.args.die.now in
    let block = c.args.block in
    let same = ap (λ (d : DieState). length (pages_of d block)) c.mark.ensures
    ∙ ap length (pages_marked die block block c.in_ok-is_bad.is_bad) in
    reads_rest IsBadByte (AreParts IsPage (length (pages_of die block))) 1 (g.R.Read.remaining c.args.image.now)
    (g.R.Read.remaining c.read_bad.new.image) (g.R.Read.remaining c.read_pages.new.image) c.read_pages.result
    bad_byte_length c.in_ok-is_bad.ensures.kind
    (subst
    (λ n. Reads (AreParts IsPage n) (g.R.Read.remaining c.read_bad.new.image) (g.R.Read.remaining c.read_pages.new.image)
    c.read_pages.result)
    same c.read_pages.ensures.kind)
