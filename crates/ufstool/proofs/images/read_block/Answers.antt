use Rattle.std.proofs.Common.{◌≡◌, ◌∙◌, ◌+◌, ℕ, [], ◌∷◌, ap, arith, length, subst, sym}
use Rattle.std.specs.Prelude.{IfSome, Option, Some}
use Rattle.std.specs.Io.KnownBytes.{Consumes}
use Rattle.ufstool.specs.Images.{IsFault, block_place, image_length}
use Rattle.ufstool.specs.declared.images.ImageFault.{ImageFault}
use Rattle.ufstool.specs.declared.images.ImageFault.TheVariants.{Malformed}
use Rattle.ufstool.specs.declared.images.Trouble.TheVariants.{Bad, Short}
use Rattle.ufstool.proofs.ImageFacts.{bad_told, block_read, no_pages}
use Rattle.ufstool.proofs.images.read_block.Goals as goal

pub returns-clause-right : goal.returns-clause-right
returns-clause-right g c = λ start r.
    let first = subst (λ (o : Option ℕ). IfSome o (λ b.
    Consumes (g.R.Read.remaining c.args.image.now) (g.R.Read.remaining c.next_byte.new.image) (b ∷ [])))
    c.in-Some.is c.in_ok-byte.ensures.found in
    let skipped = c.in_ok-skipped.ensures in
    block_read c.args.sizes c.args.number c.in-Some.byte skipped.bytes.0 start _ _ _ r first
    (omega (arith, c.if-byte-gt1.false)) skipped.bytes.1 (omega (arith, skipped.bytes.2, skipped.most))

pub returns-then-byte-gt1-clause-wrong : goal.returns-then-byte-gt1-clause-wrong
returns-then-byte-gt1-clause-wrong g c = λ start r.
    let first = subst (λ (o : Option ℕ). IfSome o (λ b.
    Consumes (g.R.Read.remaining c.args.image.now) (g.R.Read.remaining c.next_byte.new.image) (b ∷ [])))
    c.in-Some.is c.in_ok-byte.ensures.found in
    let b = c.in-Some.byte in
    subst (λ (p : ℕ). IfSome start (IsFault (Malformed p (Bad c.named-die.result.0 c.named-die.result.1 b))))
    (sym c.place-place.ensures)
    (bad_told c.args.sizes c.args.number b c.named-die.result.0 c.named-die.result.1 start _ _ c.requires.in_range
    c.requires.there r first c.if-byte-gt1.true)

pub returns-then-skipped-pages-clause-wrong : goal.returns-then-skipped-pages-clause-wrong
returns-then-skipped-pages-clause-wrong g c = λ start r.
    let first = subst (λ (o : Option ℕ). IfSome o (λ b.
    Consumes (g.R.Read.remaining c.args.image.now) (g.R.Read.remaining c.next_byte.new.image) (b ∷ [])))
    c.in-Some.is c.in_ok-byte.ensures.found in
    let skipped = c.in_ok-skipped.ensures in
    let sizes = c.args.sizes in
    let pages = skipped.bytes.0 in
    let place : c.place-place.result + 1 + c.in_ok-skipped.skipped ≡ block_place sizes c.args.number + 1 + length pages =
    omega (arith, c.place-place.ensures, skipped.bytes.2) in
    subst (λ (f : ImageFault). IfSome start (IsFault f))
    (sym (c.short-then-skipped-pages.ensures ∙ ap (λ (p : ℕ). Malformed p (Short (Some (image_length sizes)))) place))
    (no_pages sizes c.args.number c.in-Some.byte pages (Some (image_length sizes)) start _ _ _ c.requires.in_range
    c.requires.there r first skipped.bytes.1 (skipped.end c.if-skipped-pages.true)
    (omega (arith, skipped.bytes.2, c.if-skipped-pages.true, c.page_bytes-pages.ensures)))
