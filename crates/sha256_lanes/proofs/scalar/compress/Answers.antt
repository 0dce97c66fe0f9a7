use Rattle.std.proofs.Common.{◌≡◌, ◌*◌, ◌∙◌, ap, arith, refl}
use Rattle.sha2.specs.Sha256.{add_state, compress, rounds, schedule}
use Rattle.sha256_lanes.proofs.scalar.compress.Goals as goal

pub turns-init : goal.turns-init
unfolding rounds
turns-init c = λ b rowed. refl

pub turns-preserved : goal.turns-preserved
turns-preserved c = λ b rowed.
    let h = c.args.state.now in
    let after = rounds h (schedule b 48) in
    let s1 = c.four_steps-v.ensures b h rowed (c.turns.invariant b rowed) in
    let s2 = c.four_steps-v-in-turns.ensures b h rowed s1 in
    let s3 = c.four_steps-v-in-turns-2.ensures b h rowed (s2 ∙ ap after (omega arith)) in
    let s4 = c.four_steps-v-in-turns-3.ensures b h rowed (s3 ∙ ap after (omega arith)) in
    s4 ∙ ap after (omega arith)

pub returns : goal.returns
unfolding compress
returns c = λ b rowed.
    let done : 16 * c.turns.turn ≡ 64 = omega arith in
    c.added.ensures ∙ ap (add_state c.args.state.now) (rw done at (c.turns.invariant b rowed))
