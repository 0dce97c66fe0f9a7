use Rattle.std.proofs.Common.{◌≡◌, ◌∙◌, ap, arith, refl}
use Rattle.sha2.specs.Sha256.{add_state, compress, rounds}
use Rattle.sha256_lanes.proofs.beside.compress_first.Goals as goal

pub places-init : goal.places-init
unfolding rounds
places-init c = (λ b rowed. refl, λ j h. (λ k lt. absurd (omega arith), λ t lt. absurd (omega arith)))

pub places-preserved : goal.places-preserved
places-preserved c = (
  λ b rowed. c.first_beside-v.ensures.rounds b c.args.state.now rowed (c.places.invariant.0 b rowed),
  λ j h. c.first_beside-v.ensures.rows j h (c.places.invariant.1 j h),
)

pub returns-clause-state : goal.returns-clause-state
unfolding compress
returns-clause-state c = λ b rowed.
    let done : c.places.place ≡ 16 = omega arith in
    c.added.ensures ∙ ap (add_state c.args.state.now) (rw done at (c.places.invariant.0 b rowed))

pub returns-clause-rows : goal.returns-clause-rows
returns-clause-rows c = λ j h.
    let done : c.places.place ≡ 16 = omega arith in
    rw done at (c.places.invariant.1 j h)
