-- What only grows in a life: the accepted commands at their end, and how many of them are acknowledged as durable.
use Rattle.ufs_laws.proofs.Common.{Answer, Array, Call, Command, EndJob, List, Move, State, TakeStep, Translation, []}
use Rattle.ufs_laws.proofs.Common.{ap, append-nil, append_assoc, arith, behind, held, moved, observe, refl, sym}
use Rattle.ufs_laws.proofs.Common.{with_moves, ◌++◌, ◌∙◌, ◌∷◌, ◌≡◌, ◌≤◌}
use Rattle.ufs_laws.proofs.walk.SmallChanges.{Accepts, Change, IsKept, IsSmall, Moves, Small, call_kept, changed, kept}
use Rattle.ufs_laws.proofs.walk.LayerEffects.{Effect, NoEffect, ended, turned_by, with_effect}

abbrev pub Grows : State → State → Type 0
Grows s t = (rest : List Command) × (t.accepted ≡ s.accepted ++ rest)

same_grows : (s t : State) → t.accepted ≡ s.accepted → Grows s t
same_grows s t e = ([], e ∙ sym (append-nil s.accepted))

grows : IsKept (λ s change. IsSmall change) Grows
grows = record {
  self = λ s. same_grows s s refl;
  both = λ s t u h k.
      (h.0 ++ k.0, k.1 ∙ ap (λ (cs : List Command). cs ++ k.0) h.1 ∙ append_assoc s.accepted h.0 k.0);
  one = one;
}
  where
    one : (s : State) (change : Change) → IsSmall change → Grows s (changed s change)
    one s (Accepts command claimed f) is = (command ∷ [], refl)
    one s change is = same_grows s (changed s change) refl

moves_grow : (s : State) (move : Move) (array : Array) → Grows s (record (with_moves s (move ∷ [])) { array = array })
moves_grow s move array = ([], sym (append-nil s.accepted))

pub behind_grows : (s : State) (call : Call) (answer : Answer) → Grows s (behind s call answer)
behind_grows s call answer = (call_kept Grows grows moves_grow s call answer).0

pub accepted_grows : (s : State) (call : Call) (answer : Answer) → Grows s (observe s call answer)
accepted_grows s call answer = (call_kept Grows grows moves_grow s call answer).1

-- neither a step nor the end of a job changes how many are held
effect_held : (t : Translation) (e : Effect) → t.ledger.held ≤ (with_effect t e).ledger.held
effect_held t NoEffect = omega arith
effect_held t e = omega arith

move_held : (t : Translation) (move : Move) → t.ledger.held ≤ (moved t move).ledger.held
move_held t (EndJob die ending) =
    ended (λ u. t.ledger.held ≤ u.ledger.held) t die (t.disk.flights die) ending (λ e comes. effect_held t e)
move_held t TakeStep = turned_by (λ u. t.ledger.held ≤ u.ledger.held) t (λ e comes. effect_held t e)
move_held t move = omega arith

holds : IsKept (λ s change. IsSmall change) (λ s t. held s ≤ held t)
holds = record { self = λ s. omega arith; both = λ s t u h k. omega arith; one = one }
  where
    one : (s : State) (change : Change) → IsSmall change → held s ≤ held (changed s change)
    one s (Moves move) is = move_held s.translation move
    one s change is = omega arith

pub small_held : {s t : State} → Small s t → s.translation.ledger.held ≤ t.translation.ledger.held
small_held h = kept (λ s t. held s ≤ held t) holds h

-- so a call never takes back what is held
pub held_stays : (s : State) (call : Call) (answer : Answer) → held s ≤ held (observe s call answer)
held_stays s call answer =
    (call_kept (λ s t. held s ≤ held t) holds (λ s move array. move_held s.translation move) s call answer).1
