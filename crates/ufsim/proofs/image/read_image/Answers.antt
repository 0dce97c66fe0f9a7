use Rattle.std.proofs.Common.{◌≡◌, ◌∙◌, ◌+◌, ◌*◌, ap, arith, length, not, refl, rules, subst, sym}
use Rattle.std.proofs.lemmas.Bool.{false≢true}
use Rattle.std.proofs.lemmas.Bool.Decides.{Decides-eqb}
use Rattle.std.proofs.lemmas.Slice.Eq.{slice_eq-Decides}
use Rattle.std.specs.Io.KnownBytes.{Consumes}
use Rattle.ufsim.specs.Images.{AreParts, InTurn, IsDie, IsHead, IsImage, Took, head_bytes}
use Rattle.ufsim.proofs.ImageLemmas.{all_more, consumes_more, count_more, dies_more}
use Rattle.ufsim.proofs.ImageParts.{die_length, lacks_first, lacks_other, lacks_turn_part, no_image, no_image_and_more}
use Rattle.ufsim.proofs.ImageParts.{parts_length, turn_begun, turn_length, turn_more, whole_image, whole_passed_on, whole_refused}
use Rattle.ufsim.proofs.image.read_image.Goals as goal

pub loop-init : goal.loop-init
loop-init g c =
    let s = c.args.sizes in
    let head = head_bytes s.dies s.blocks s.pages in
    let read : Consumes (g.R.Read.remaining c.args.image.now) (g.R.Read.remaining c.fill.new.image) head = search rules in (
      turn_begun (IsHead s.dies s.blocks s.pages) (IsDie s.blocks s.pages) (g.R.Read.remaining c.args.image.now)
          (g.R.Read.remaining c.fill.new.image) head refl read,
      search rules,
      search rules,
      search rules,
    )

pub loop-preserved : goal.loop-preserved
loop-preserved g c =
    let before = c.loop.invariant in
    let s = c.args.sizes in
    let head = head_bytes s.dies s.blocks s.pages in
    let items = c.in_ok-push.ensures.items in (
      turn_more (IsHead s.dies s.blocks s.pages) (IsDie s.blocks s.pages) c.loop.counter _ _ _ before.0
          c.in_ok-die.ensures.kind,
      consumes_more _ _ _ _ _ _ before.1 c.in_ok-die.ensures.bytes
          (dies_more head c.loop.dies.items c.push.new.self.items c.in_ok-die.die items),
      all_more s.blocks s.pages c.loop.dies.items c.push.new.self.items c.in_ok-die.die items before.2 c.in_ok-die.ensures.size,
      count_more c.loop.dies.items c.push.new.self.items c.in_ok-die.die c.loop.counter items before.3,
    )

pub returns-then-ne-clause-malformed : goal.returns-then-ne-clause-malformed
returns-then-ne-clause-malformed g c =
    let s = c.args.sizes in
    let head = head_bytes s.dies s.blocks s.pages in
    let found = c.fill.new.into in
    let old = g.R.Read.remaining c.args.image.now in
    let long : length found ≡ length head = search rules in
    let same = slice_eq-Decides Decides-eqb found c.head.result _ refl in
    λ _.
    no_image (IsImage s.dies s.blocks s.pages) old
    (lacks_first (IsHead s.dies s.blocks s.pages) (AreParts (IsDie s.blocks s.pages) s.dies) old
    (lacks_other head found old (g.R.Read.remaining c.fill.new.image) long
    (λ h. false≢true (sym (c.if-ne.ensures ∙ ap not (same.1 (h ∙ sym c.head.ensures))))) c.in_ok-fill.ensures.bytes))

pub returns-in_err-dies-clause-malformed : goal.returns-in_err-dies-clause-malformed
returns-in_err-dies-clause-malformed g c =
    whole_refused c.from_residual-in_err-dies.result _ c.from_residual-in_err-dies.ensures.1

pub returns-in_err-die-clause-malformed : goal.returns-in_err-die-clause-malformed
returns-in_err-die-clause-malformed g c =
    let s = c.args.sizes in
    let old = g.R.Read.remaining c.args.image.now in
    let now = g.R.Read.remaining c.loop.image in
    whole_passed_on c.from_residual-in_err-die.result c.in_err-die.field-0.0 _ c.from_residual-in_err-die.ensures.1
    (λ m. no_image (IsImage s.dies s.blocks s.pages) old
    (lacks_turn_part (IsHead s.dies s.blocks s.pages) (IsDie s.blocks s.pages)
    (length (head_bytes s.dies s.blocks s.pages)) (s.blocks * (1 + s.pages * 4192)) c.loop.counter s.dies old now
    (λ bytes is. ap length is) (die_length s.blocks s.pages) c.loop.invariant.0 (c.in_err-die.ensures.kind m)
    c.loop-test.true))

pub returns-in_err-push-clause-malformed : goal.returns-in_err-push-clause-malformed
returns-in_err-push-clause-malformed g c =
    whole_refused c.from_residual-in_err-push.result _ c.from_residual-in_err-push.ensures.1

pub returns-in_err-expect_end-clause-malformed : goal.returns-in_err-expect_end-clause-malformed
returns-in_err-expect_end-clause-malformed g c =
    let s = c.args.sizes in
    let old = g.R.Read.remaining c.args.image.now in
    let now = g.R.Read.remaining c.loop.image in
    let past = c.loop-test.false in
    let end = c.loop.auto.counter-end in
    let whole : c.loop.counter ≡ s.dies = omega (arith, past, end) in
    let one = s.blocks * (1 + s.pages * 4192) in
    let took = subst
    (λ n. Took (InTurn (IsHead s.dies s.blocks s.pages) (AreParts (IsDie s.blocks s.pages) n)) old now) whole
    c.loop.invariant.0 in
    whole_passed_on c.from_residual-in_err-expect_end.result c.in_err-expect_end.field-0.0 _
    c.from_residual-in_err-expect_end.ensures.1
    (λ m. no_image_and_more (IsImage s.dies s.blocks s.pages) (length (head_bytes s.dies s.blocks s.pages) + s.dies * one)
    old now
    (turn_length (IsHead s.dies s.blocks s.pages) (AreParts (IsDie s.blocks s.pages) s.dies)
    (length (head_bytes s.dies s.blocks s.pages)) (s.dies * one) (λ bytes is. ap length is)
    (parts_length (IsDie s.blocks s.pages) one s.dies (die_length s.blocks s.pages))) took
    (c.in_err-expect_end.ensures.more m))

pub returns-clause-sizes : goal.returns-clause-sizes
returns-clause-sizes g c = (search rules, c.loop.invariant.2)

pub returns-clause-image : goal.returns-clause-image
returns-clause-image g c =
    let s = c.args.sizes in
    let old = g.R.Read.remaining c.args.image.now in
    let now = g.R.Read.remaining c.loop.image in
    let past = c.loop-test.false in
    let end = c.loop.auto.counter-end in
    let whole : c.loop.counter ≡ s.dies = omega (arith, past, end) in
    let took = subst
    (λ n. Took (InTurn (IsHead s.dies s.blocks s.pages) (AreParts (IsDie s.blocks s.pages) n)) old now) whole
    c.loop.invariant.0 in
    whole_image (IsImage s.dies s.blocks s.pages) old now took c.in_ok-expect_end.ensures.end
