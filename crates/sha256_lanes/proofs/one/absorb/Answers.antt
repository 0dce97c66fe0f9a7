use Rattle.std.proofs.Common.{◌≡◌, ◌+◌, ◌-◌, ◌*◌, ◌/◌, arith, drop, length, refl}
use Rattle.sha2.specs.Sha256.{hash_after}
use Rattle.sha256_lanes.proofs.Tails.{blocks_more, four_at, four_of}
use Rattle.sha256_lanes.proofs.one.absorb.Goals as goal
use Rattle.sha256_lanes.proofs.one.absorb.Goals.{then-i-eq1, else-i-eq1}

pub returns-then-bytes-lt-FOUR : goal.returns-then-bytes-lt-FOUR
unfolding hash_after
returns-then-bytes-lt-FOUR c =
    let none : length c.args.bytes.now / 64 ≡ 0 = omega arith in
    rw none refl

pub fours-init : goal.fours-init
unfolding hash_after
fours-init c =
    (omega arith, refl, λ odd. four_of c.args.bytes.now _ (omega arith) c.keyed_rows.ensures, λ even. absurd (omega arith))

pub fours-preserved : goal.fours-preserved
fours-preserved c =
    let p = c.args.bytes.now in
    let i = c.fours.i in
    let same : i + 1 - 1 ≡ i = omega arith in
    elim c.if-i-eq1.branch [
      | then-i-eq1 w ↦
          let rows = c.fours.invariant.2 (omega arith) in
          let s = blocks_more c.args.state.now p c.fours.state _ (4 * (i - 1)) 4 (4 * i) c.fours.invariant.1 (omega arith)
          (w.absorb_beside.ensures.state (drop (4 * (i - 1) * 64) p) rows) (omega arith) in (
            omega arith,
            rw (w.state-is, same) s,
            λ odd. absurd (omega arith),
            λ even. rw (w.even-is, same) (four_at p _ i (omega arith) w.absorb_beside.ensures.rows),
          )
      | else-i-eq1 w ↦
          let rows = c.fours.invariant.3 (omega arith) in
          let s = blocks_more c.args.state.now p c.fours.state _ (4 * (i - 1)) 4 (4 * i) c.fours.invariant.1 (omega arith)
          (w.absorb_beside-else-i-eq1.ensures.state (drop (4 * (i - 1) * 64) p) rows) (omega arith) in (
            omega arith,
            rw (w.state-is, same) s,
            λ odd. rw (w.odd-is, same) (four_at p _ i (omega arith) w.absorb_beside-else-i-eq1.ensures.rows),
            λ even. absurd (omega arith),
          )
    ]

pub returns-then-fours-eq1 : goal.returns-then-fours-eq1
returns-then-fours-eq1 c =
    let p = c.args.bytes.now in
    let i = c.fours.i in
    let done : i ≡ length p / 256 = omega arith in
    blocks_more c.args.state.now p c.fours.state _ (4 * (i - 1)) 4 (length p / 64) c.fours.invariant.1 (omega arith)
    (c.absorb_rows.ensures (drop (4 * (i - 1) * 64) p) (c.fours.invariant.2 (omega arith))) (omega arith)

pub returns-else-fours-eq1 : goal.returns-else-fours-eq1
returns-else-fours-eq1 c =
    let p = c.args.bytes.now in
    let i = c.fours.i in
    let done : i ≡ length p / 256 = omega arith in
    blocks_more c.args.state.now p c.fours.state _ (4 * (i - 1)) 4 (length p / 64) c.fours.invariant.1 (omega arith)
    (c.absorb_rows-else-fours-eq1.ensures (drop (4 * (i - 1) * 64) p) (c.fours.invariant.3 (omega arith))) (omega arith)
