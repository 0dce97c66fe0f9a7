use Rattle.std.proofs.Common.{◌≡◌, ◌<◌, arith, length, rules, subst}
use Rattle.std.proofs.lemmas.Grind.{common_steps}
use Rattle.ufs_spec.specs.Dies.{pages_of}
use Rattle.ufsim.specs.Images.{AreParts, IsPage, Took}
use Rattle.ufsim.proofs.ImageParts.{lacks_part, page_length, passed_on, took_more, took_none}
use Rattle.ufsim.proofs.image.read_pages.Goals as goal

pub loop-page-init : goal.loop-page-init
loop-page-init g c = (took_none IsPage _, search rules, search rules)

pub loop-page-preserved : goal.loop-page-preserved
loop-page-preserved g c = (
  took_more IsPage c.loop-page.page _ _ _ c.loop-page.invariant.0 c.in_ok-content.ensures.kind,
  grind (arith, common_steps),
  search rules,
)

pub returns-in_err-content-clause-kind : goal.returns-in_err-content-clause-kind
returns-in_err-content-clause-kind g c =
    let count = length (pages_of c.args.die.now c.args.block) in
    let less : c.loop-page.page < count = search rules in
    passed_on (AreParts IsPage count) _ _ _ c.in_err-content.field-0.0 c.from_residual.ensures.1
    (λ m. lacks_part IsPage 4192 c.loop-page.page count _ _ page_length c.loop-page.invariant.0
    (c.in_err-content.ensures.kind m) less)

pub returns-clause-kind : goal.returns-clause-kind
returns-clause-kind g c =
    let whole : c.loop-page.page ≡ length (pages_of c.args.die.now c.args.block) = search rules in
    subst (λ n. Took (AreParts IsPage n) (g.R.Read.remaining c.args.image.now) (g.R.Read.remaining c.loop-page.image))
    whole c.loop-page.invariant.0
