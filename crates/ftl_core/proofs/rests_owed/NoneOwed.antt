-- Only a pending page that waits for its rest is owed a read.
use Rattle.ftl_core.proofs.Common.{Bool, DieRow, ForRest, List, None, Option, Pending, Rest, Some, ap, false, find}
use Rattle.ftl_core.proofs.Common.{first_waiting_from, is_some, list_any, looks_on, not, owes_rest, reads_for, refl}
use Rattle.ftl_core.proofs.Common.{rest_look, sym, take, true≢false, ℕ, ◌&&◌, ◌≡◌, ◌≤◌}
use Rattle.write_cache.specs.Rests.{waits}
use Rattle.ftl_core.proofs.FirstWaiting.{IsWider, next_found, none_found}

looks_off : (die : ℕ) (o : Option Rest) → is_some o ≡ false → looks_on die (rest_look o) ≡ false
looks_off die None h = refl
looks_off die (Some r) h = absurd (true≢false h)

-- a page that is owed a read waits
wider : (rows : List DieRow) (die : ℕ) → IsWider waits (owes_rest rows die)
wider rows die p h =
    ap (λ (b : Bool). b && not (list_any (reads_for (ForRest p.number p.index)) rows)) (looks_off die p.rest h)

-- the pages before the next one that waits are owed none
pub none_owed_to : (rows : List DieRow) (die : ℕ) (ps : List Pending) (from at : ℕ) →
    find (owes_rest rows die) (take from ps) ≡ None → Some at ≡ first_waiting_from ps from →
    (find (owes_rest rows die) (take at ps) ≡ None) × (from ≤ at)
none_owed_to rows die ps from at none is =
    next_found waits (owes_rest rows die) ps from at (wider rows die) none (sym is)

-- and where there is no next one, no page is
pub none_owed : (rows : List DieRow) (die : ℕ) (ps : List Pending) (from : ℕ) →
    find (owes_rest rows die) (take from ps) ≡ None → None ≡ first_waiting_from ps from →
    find (owes_rest rows die) ps ≡ None
none_owed rows die ps from none is = none_found waits (owes_rest rows die) ps from (wider rows die) none (sym is)
