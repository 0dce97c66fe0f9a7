use Rattle.std.proofs.Common.{◌≡◌, ◌++◌, ◌∙◌, ap, arith, length, length-append, refl}
use Rattle.sha2.specs.Sha256.{sha256}
use Rattle.sha256_lanes.specs.Hashes.{Holds}
use Rattle.sha256_lanes.specs.Lanes.{lane}
use Rattle.sha256_lanes.proofs.Tails.{digest_of}
use Rattle.sha256_lanes.proofs.hashes.FourHashes.finish.Goals as goal

pub returns : goal.returns
unfolding Holds
returns c = λ e f g h held.
    let first : c.digest.result ≡ sha256 (e ++ c.args.a.now) =
    digest_of e c.args.a.now c.tail-tail_a.result c.tail-tail_a.result _ _ _ _ _ _ _
    (omega arith) (omega arith) refl
    c.tail_len-end.ensures (omega arith) (omega arith) (ap (lane 0) c.rows-state.ensures ∙ held.5 0 (omega arith))
    (c.absorb.ensures 0 (omega arith))
    (c.tail-tail_a.ensures (length (e ++ c.args.a.now)) (omega (arith, length-append e c.args.a.now))
    (omega (arith, length-append e c.args.a.now))) (c.absorb-2.ensures 0 (omega arith)) c.digest.ensures in
    let second : c.digest-2.result ≡ sha256 (f ++ c.args.b.now) =
    digest_of f c.args.b.now c.tail-tail_a.result c.tail-tail_b.result _ _ _ _ _ _ _
    (omega arith) (omega arith) c.requires.second
    c.tail_len-end.ensures (omega arith) (omega arith) (ap (lane 1) c.rows-state.ensures ∙ held.5 1 (omega arith))
    (c.absorb.ensures 1 (omega arith))
    (c.tail-tail_b.ensures (length (f ++ c.args.b.now)) (omega (arith, length-append f c.args.b.now))
    (omega (arith, length-append f c.args.b.now))) (c.absorb-2.ensures 1 (omega arith)) c.digest-2.ensures in
    let third : c.digest-3.result ≡ sha256 (g ++ c.args.c.now) =
    digest_of g c.args.c.now c.tail-tail_a.result c.tail-tail_c.result _ _ _ _ _ _ _
    (omega arith) (omega arith) c.requires.third
    c.tail_len-end.ensures (omega arith) (omega arith) (ap (lane 2) c.rows-state.ensures ∙ held.5 2 (omega arith))
    (c.absorb.ensures 2 (omega arith))
    (c.tail-tail_c.ensures (length (g ++ c.args.c.now)) (omega (arith, length-append g c.args.c.now))
    (omega (arith, length-append g c.args.c.now))) (c.absorb-2.ensures 2 (omega arith)) c.digest-3.ensures in
    let fourth : c.digest-4.result ≡ sha256 (h ++ c.args.d.now) =
    digest_of h c.args.d.now c.tail-tail_a.result c.tail-tail_d.result _ _ _ _ _ _ _
    (omega arith) (omega arith) c.requires.fourth
    c.tail_len-end.ensures (omega arith) (omega arith) (ap (lane 3) c.rows-state.ensures ∙ held.5 3 (omega arith))
    (c.absorb.ensures 3 (omega arith))
    (c.tail-tail_d.ensures (length (h ++ c.args.d.now)) (omega (arith, length-append h c.args.d.now))
    (omega (arith, length-append h c.args.d.now))) (c.absorb-2.ensures 3 (omega arith)) c.digest-4.ensures in
    rw (first, second, third, fourth) refl
