-- Dies that are shared out, and what is left behind a share.
use Rattle.recovery.proofs.Common.{arith, cases_lt, subst, suc, sym, ℕ, ⊎_elim, ◌*◌, ◌+◌, ◌/◌, ◌<◌, ◌≡◌, ◌≤◌}
use Rattle.std.proofs.lemmas.Nat.{div-add-mod', div_below, le-div, mod_below, mul-le}
use Rattle.std.specs.Prelude.{◌-◌}
use Rattle.recovery.specs.Shares.{AreShared, IsShare}

-- a number lies between the multiples of its quotient and of the next number
at_least : (dies workers : ℕ) → dies / workers * workers ≤ dies
at_least dies workers = omega (arith, div-add-mod' dies workers)

at_most : (dies workers : ℕ) → 1 ≤ workers → dies < dies / workers * workers + workers
at_most dies workers some = omega (arith, div-add-mod' dies workers, mod_below dies workers some)

pub even_shares : (dies workers : ℕ) → 1 ≤ workers → AreShared (dies / workers) workers dies
even_shares dies workers some =
    let low = at_least dies workers in
    let high = at_most dies workers some in
    (some, omega (arith, low), omega (arith, high))

-- one share of the even ones is left out
rest_at_least : (least others dies : ℕ) → suc others * least ≤ dies → others * least ≤ dies - dies / suc others
rest_at_least least others dies low =
    let share = dies / suc others in
    let enough : least ≤ share = le-div least dies (suc others) (omega arith) (omega (arith, low)) in
    let more : least * others ≤ share * others = mul-le least others share others enough (omega arith) in
    let all = at_least dies (suc others) in
    omega (arith, more, all)

rest_at_most : (least others dies : ℕ) → dies ≤ suc others * suc least
    → dies - dies / suc others ≤ others * suc least
rest_at_most least others dies high =
    let share = dies / suc others in
    let under = at_most dies (suc others) (omega arith) in
    ⊎_elim
    (λ (above : least < share). omega (arith, high, above))
    (λ (below : share ≤ least).
    let less : share * others ≤ least * others = mul-le share others least others below (omega arith) in
    omega (arith, less, under))
    (cases_lt least share)

module _ (least workers dies : ℕ) (many : 1 < workers) (shared : AreShared least workers dies) where
  pub share_fits : IsShare least (dies / workers)
  share_fits =
      let low = shared.1 in
      let high = shared.2 in
      let some = shared.0 in
      let under : dies < suc (suc least) * workers = omega (arith, high, some) in
      let below = div_below dies workers (suc (suc least)) some under in
      (le-div least dies workers some (omega (arith, low)), omega (arith, below))

  -- the others share what is left
  pub rest_shared : AreShared least (workers - 1) (dies - dies / workers)
  rest_shared =
      let one : workers ≡ suc (workers - 1) = omega (arith, many) in
      let low = subst (λ (k : ℕ). k * least ≤ dies) one shared.1 in
      let high = subst (λ (k : ℕ). dies ≤ k * suc least) one shared.2 in
      subst (λ (k : ℕ). AreShared least (workers - 1) (dies - dies / k)) (sym one)
      (omega (arith, many), rest_at_least least (workers - 1) dies low, rest_at_most least (workers - 1) dies high)
