-- What is held once an answer is handed out.
use Rattle.ufs_laws.proofs.Common.{Answering, Awaiting, Bool, Cdb, Deed, Good, List, Request, Some, State, Task}
use Rattle.ufs_laws.proofs.Common.{accepts, ap, blocks_in, cond-false, deed_after, false, held, if◌then◌else◌, length}
use Rattle.ufs_laws.proofs.Common.{locked, mended, moves_after, not, refl, set_deed, subst, sym, task_goes_on, true}
use Rattle.ufs_laws.proofs.Common.{with_moves, with_task, ℕ, ◌+◌, ◌≡◌}
use Rattle.std.proofs.Common.{max}
use Rattle.ufs_spec.specs.Commands as command
use Rattle.ufs_spec.specs.Machine.{flush_begun, task_replied, write_complete}

pub forced : (s : State) (task : Task) (unit address blocks : ℕ) (bytes : List ℕ) → locked s ≡ false →
    write_complete s task unit address blocks true bytes ≡ set_deed
    (accepts s (command.Write unit address (blocks_in blocks bytes)) blocks) task.tag (Awaiting (length s.accepted + 1))
forced s task unit address blocks bytes h = cond-false (locked s) _ _ h

-- what a flush without IMMED waits for, on a device that is mended and on one that is not
abbrev waits : State → Request → Cdb → Bool → State
waits s r c mends =
    with_task s r (Some c) 0 (if not mends then Answering Good 0 else Awaiting (length s.accepted))

pub flushed : (s : State) (r : Request) (c : Cdb) → mended s ≡ true →
    flush_begun s r c false ≡ with_task s r (Some c) 0 (Awaiting (length s.accepted))
flushed s r c e = ap (waits s r c) e

pub flushed_before : (s : State) (r : Request) (c : Cdb) → mended s ≡ false →
    flush_begun s r c false ≡ with_task s r (Some c) 0 (Answering Good 0)
flushed_before s r c e = ap (waits s r c) e

pub handed : (s : State) (task : Task) (n : ℕ) → task.deed ≡ Awaiting n → held (task_replied s task) ≡ max (held s) n
handed s task n h =
    subst
    (λ (d : Deed). held (task_goes_on (with_moves s (moves_after task d)) task (deed_after task d)) ≡ max (held s) n)
    (sym h) refl
