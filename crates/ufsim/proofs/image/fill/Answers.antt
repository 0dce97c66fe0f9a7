use Rattle.std.proofs.Common.{◌≡◌, ◌+◌, ◌-◌, ◌≤◌, ◌∙◌, ◌++◌, ap, arith, le_refl, length, rules, subst, sym, take, take_all}
use Rattle.std.specs.Io.KnownBytes.{Consumes}
use Rattle.std.proofs.KnownBytes.{Consumes-trans, Consumes-kept}
use Rattle.std.proofs.lemmas.Slice.{take-put_mid_below}
use borrow.Rule.Slice.PartMut.{put_mid}
use Rattle.ufsim.proofs.ImageParts.{front_joined, part_put}
use Rattle.ufsim.proofs.image.fill.Goals as goal
use Rattle.ufsim.proofs.image.fill.Goals.{in-Ok, in-Err+in_ok-pass_interrupted-in-Err}

pub returns-then-at-into-clause-bytes : goal.returns-then-at-into-clause-bytes
returns-then-at-into-clause-bytes g c =
    subst (Consumes _ _) (take_all c.loop.at c.loop.into c.if-at-into.true) c.loop.invariant.2

pub returns-then-at-into-clause-kind : goal.returns-then-at-into-clause-kind
returns-then-at-into-clause-kind g c = (
  c.loop.into,
  c.loop.invariant.0,
  subst (Consumes _ _) (take_all c.loop.at c.loop.into c.if-at-into.true) c.loop.invariant.2,
)

pub loop-preserved : goal.loop-preserved
loop-preserved g c =
    let at = c.loop.at in
    let into = c.loop.into in
    let room = length into - at in
    let within = c.loop.invariant.1 in
    let old = g.R.Read.remaining c.args.image.now in
    let now = g.R.Read.remaining c.read.new.self in
    let after = put_mid at room into c.read.new.buf in
    let below = take-put_mid_below _ _ _ _ _ (le_refl _) within in
    let long : length after ≡ length c.args.into.now = search rules in
    elim c.match-read.branch [
      | in-Ok w ↦
          let count = w.in-Ok.count in
          let bound = w.in-Ok.ensures.bound.0 in
          let part = part_put at room count into c.read.new.buf within bound in
          let joined = front_joined at (at + count) into after (omega arith) below in
          let read = Consumes-trans _ _ _ _ _ c.loop.invariant.2 w.in-Ok.ensures.bytes.0 in (
            long,
            subst (λ n. n ≤ length after) (sym w.at-is) (omega (arith, long, bound)),
            subst (λ n. Consumes old now (take n after)) (sym w.at-is)
                (subst (Consumes _ _) (ap (λ l. take at into ++ l) (sym part) ∙ joined) read),
          )
      | in-Err+in_ok-pass_interrupted-in-Err w ↦ (
        long,
        subst (λ n. n ≤ length after) (sym w.at-is) (omega (arith, long)),
        subst (λ n. Consumes old now (take n after)) (sym w.at-is)
            (subst (Consumes _ _) (sym below) (Consumes-kept _ _ _ _ c.loop.invariant.2 w.in-Err.ensures.bytes)),
      )
    ]
