use Rattle.std.proofs.Common.{◌≡◌, ◌∙◌, ◌+◌, ◌*◌, arith, rules, subst, sym}
use Rattle.std.proofs.lemmas.Grind.{common_steps}
use Rattle.ufsim.specs.Images.{AreParts, IsBlock, IsDie, Lacks, Took}
use Rattle.ufsim.proofs.ImageLemmas.{apart_above, block_read, consumes_more}
use Rattle.ufsim.proofs.ImageParts.{block_length, lacks_part, passed_on, refused, took_more, took_none}
use Rattle.ufsim.proofs.image.read_die.Goals as goal

pub loop-block-init : goal.loop-block-init
loop-block-init g c = (
  took_none (IsBlock c.args.sizes.pages) _,
  search rules,
  grind (arith, common_steps),
  λ block below. grind (arith, common_steps),
  λ block from. grind (arith, common_steps),
  grind (arith, common_steps),
)

pub loop-block-preserved : goal.loop-block-preserved
loop-block-preserved g c =
    let before = c.loop-block.invariant in
    let read = c.in_ok-read_block.ensures.rest in
    let pages = c.args.sizes.pages in
    let now = g.R.Read.remaining c.loop-block.image in
    let next = g.R.Read.remaining c.read_block.new.image in
    let kind = subst (λ n. Took (IsBlock n) now next) (before.3 c.loop-block.block c.loop-block-test.true)
    c.in_ok-read_block.ensures.kind in (
      took_more (IsBlock pages) c.loop-block.block (g.R.Read.remaining c.args.image.now) now next before.0 kind,
      consumes_more _ _ _ _ _ _ before.1 c.in_ok-read_block.ensures.bytes
          (block_read c.loop-block.die c.read_block.new.die c.loop-block.block read),
      read.0 ∙ before.2,
      λ block below. read.1 block ∙ before.3 block below,
      λ block above. read.2 block (apart_above block c.loop-block.block (omega arith)) ∙ before.4 block (omega arith),
      read.4 ∙ before.5 ∙ sym read.0,
    )

pub returns-in_err-die-clause-kind : goal.returns-in_err-die-clause-kind
returns-in_err-die-clause-kind g c =
    refused (IsDie c.args.sizes.blocks c.args.sizes.pages) _ _ _ c.from_residual.ensures.1

pub returns-in_err-read_block-clause-kind : goal.returns-in_err-read_block-clause-kind
returns-in_err-read_block-clause-kind g c =
    let before = c.loop-block.invariant in
    let blocks = c.args.sizes.blocks in
    let pages = c.args.sizes.pages in
    let now = g.R.Read.remaining c.loop-block.image in
    passed_on (IsDie blocks pages) (g.R.Read.remaining c.args.image.now) (g.R.Read.remaining c.read_block.new.image)
    c.from_residual-in_err-read_block.result c.in_err-read_block.field-0.0
    c.from_residual-in_err-read_block.ensures.1
    (λ m. lacks_part (IsBlock pages) (1 + pages * 4192) c.loop-block.block blocks
    (g.R.Read.remaining c.args.image.now) now (block_length pages) before.0
    (subst (λ n. Lacks (IsBlock n) now) (before.3 c.loop-block.block c.loop-block-test.true)
    (c.in_err-read_block.ensures.kind m)) c.loop-block-test.true)

pub returns-clause-kind : goal.returns-clause-kind
returns-clause-kind g c =
    let past = c.loop-block-test.false in
    let end = c.loop-block.auto.block-end in
    let whole : c.loop-block.block ≡ c.args.sizes.blocks = omega (arith, past, end) in
    subst
    (λ n. Took (AreParts (IsBlock c.args.sizes.pages) n) (g.R.Read.remaining c.args.image.now)
    (g.R.Read.remaining c.loop-block.image))
    whole c.loop-block.invariant.0
