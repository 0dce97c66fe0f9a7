-- Pages that are accepted and not durable, and claims, have a slot each.
use Rattle.power_loss.proofs.Common.{Group, List, SlotsRight, Translation, Valid, [], ap, arith, drop, length}
use Rattle.power_loss.proofs.Common.{pending_pages, suc, sum_by-cons, zero, ℕ, ◌+◌, ◌-◌, ◌∷◌, ◌≡◌, ◌≤◌}
use Rattle.std.proofs.Common.{sum_by}

abbrev pub pages_of : List Group → ℕ
pages_of gs = sum_by length gs

-- behind more of the groups are no more pages
pub fewer_pages : (gs : List Group) (a b : ℕ) → a ≤ b → pages_of (drop b gs) ≤ pages_of (drop a gs)
fewer_pages [] zero zero l = omega arith
fewer_pages [] zero (suc b) l = omega arith
fewer_pages [] (suc a) zero l = absurd (omega arith)
fewer_pages [] (suc a) (suc b) l = omega arith
fewer_pages (g ∷ gs) zero zero l = omega arith
fewer_pages (g ∷ gs) zero (suc b) l = let all = sum_by-cons length g gs in
    let few = fewer_pages gs zero b (omega arith) in omega (arith, all, few)
fewer_pages (g ∷ gs) (suc a) zero l = absurd (omega arith)
fewer_pages (g ∷ gs) (suc a) (suc b) l = fewer_pages gs a b (omega arith)

-- where no group is of a command, none are
pub no_pages : {gs : List Group} (n : ℕ) → gs ≡ [] → pages_of (drop n gs) ≡ 0
no_pages {gs} n e = let few = fewer_pages gs 0 n (omega arith) in let none : pages_of gs ≡ 0 = ap pages_of e in
    omega (arith, few, none)

-- Claims

pub slots_claimed : {slots pending claims : ℕ} (count : ℕ) → count ≤ slots - pending - claims →
    SlotsRight slots pending claims → SlotsRight slots pending (claims + count)
slots_claimed count l s = record { within = let w = s.within in omega (arith, l, w) }

pub slots_fewer : {slots pending claims less fewer : ℕ} → less ≤ pending → fewer ≤ claims →
    SlotsRight slots pending claims → SlotsRight slots less fewer
slots_fewer l k s = record { within = let w = s.within in omega (arith, l, k, w) }

pub never_overdrawn : (t : Translation) → Valid t → pending_pages t.ledger + t.claims ≤ t.numbers.slots
never_overdrawn t v = v.slots.within
