-- Steps of a device, one after another.
use Rattle.std.proofs.Common.{◌≡◌, ℕ, zero, suc, ◌+◌, ◌*◌, List, [], ◌∷◌, ◌++◌, add-one, arith, length, length-append, refl}
use Rattle.std.proofs.Common.{subst, sym}
use Rattle.std.proofs.Math.Nat.{suc-mul, zero-mul}
use Rattle.std.specs.Prelude.{Bool}
use Rattle.ufs_handle.specs.Calls.{Turns, Works}
use Rattle.ufs_handle.specs.Exports.{HandsJob}
use Rattle.ufs_handle.specs.Kept.{HeldState}
use Rattle.ufs_handle.specs.declared.plain.PlainJob.{PlainJob}
use Rattle.ufs_handle.specs.Steps.{Step, Taking, Walks, Working, die_steps, round_steps, settle_steps}

-- some steps, and then others
pub then : (first later : List Step) (h between after : HeldState) → Walks first h between →
    Walks later between after → Walks (first ++ later) h after
then [] later h between after one other = subst (λ (x : HeldState). Walks later x after) one other
then (step ∷ first) later h between after one other =
    (one.0, one.1, then first later one.0 between after one.2 other)

-- one more die takes a job and does it
pub one_more_die : (die : ℕ) (h before taken after : HeldState) (shown other : PlainJob) (given did : Bool) →
    Walks (round_steps die) h before → HandsJob die shown other before given taken →
    Works die taken did after → Walks (round_steps (die + 1)) h after
one_more_die die h before taken after shown other given did walked (job, is, takes, is_shown) works =
    subst (λ (n : ℕ). Walks (round_steps n) h after) (sym (add-one die))
    (then (round_steps die) (Taking die ∷ Working die ∷ []) h before after walked
    (taken, (job, takes), (after, (did, works), refl)))

-- one more round
pub one_more_round : (dies round : ℕ) (h before after : HeldState) → Walks (settle_steps dies round) h before →
    Walks (round_steps dies) before after → Walks (settle_steps dies (round + 1)) h after
one_more_round dies round h before after walked one =
    subst (λ (n : ℕ). Walks (settle_steps dies n) h after) (sym (add-one round))
    (then (settle_steps dies round) (round_steps dies) h before after walked one)

-- a turn begins a round
pub turned : (h after : HeldState) (answer : Bool) → Turns h answer after → Walks (round_steps zero) h after
turned h after answer turns = (after, (answer, turns), refl)

-- two steps of each die, and a turn, in each round
pub count_dies : (dies : ℕ) → length (die_steps dies) ≡ 2 * dies
count_dies zero = refl
count_dies (suc die) =
    let before = count_dies die in
    let all = length-append (die_steps die) (Taking die ∷ Working die ∷ []) in
    omega arith

pub count_rounds : (dies rounds : ℕ) → length (settle_steps dies rounds) ≡ rounds * (1 + 2 * dies)
count_rounds dies zero = sym (zero-mul (1 + 2 * dies))
count_rounds dies (suc round) =
    let before = count_rounds dies round in
    let all = length-append (settle_steps dies round) (round_steps dies) in
    let each = count_dies dies in
    let one_more = suc-mul round (1 + 2 * dies) in
    omega arith
