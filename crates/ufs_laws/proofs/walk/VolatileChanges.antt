-- What calls make of what is volatile: a query, a refusal, what is told, and a reset change it, and nothing else does. A
-- law of it is a case for each (`call_volatile`). And no call changes the numbers of the device.
use Rattle.ufs_laws.proofs.Common.{Answer, Call, Cdb, Done, Host, Query, Reply, Request, State, Take, Task, Turn}
use Rattle.ufs_laws.proofs.Common.{begun, behind, fills, if_both, locked, mended, numbers_of, observe, refl, refused_state}
use Rattle.ufs_laws.proofs.Common.{subst, sym, unit_of_request, unit_or_first, ℕ, ◌∙◌, ◌≡◌}
use Rattle.ufs_laws.proofs.walk.Happenings.{Aborts, Begins, Completes, Happening, IsCommand, IsEventOf, IsQueryOf, IsRequestOf}
use Rattle.ufs_laws.proofs.walk.Happenings.{Refuses, Resets, Tells, Why, behind_by, first, happened}
use Rattle.ufs_laws.proofs.walk.LayerEffects.{move_numbers}
use Rattle.ufs_laws.proofs.walk.SmallChanges.{Change, IsSmall, Moves, call_kept, changed, first_kept}
use Rattle.ufs_laws.proofs.walk.WaysOfCommands.{Beginning, Handing, Telling, WhyBegun, begins_by, begun_as}
use Rattle.ufs_laws.proofs.walk.WaysOfData.{Completion, Told as AnsweredSo, completed}
use Rattle.ufs_spec.specs.Begins.{volatile_told}
use Rattle.ufs_spec.specs.LinkEvents.{volatile_reset}
use Rattle.ufs_spec.specs.Management.{volatile_managed}
use Rattle.ufs_spec.specs.Queries.{volatile_after}
use Rattle.ufs_spec.specs.declared.operations.Told.{Told}
use Rattle.ufs_spec.specs.declared.volatile.Volatile.{Volatile}

-- what holds of what is volatile before a call, and of whatever the call may make of it
pub record IsVolatileKept (P : Volatile → Type 0) (s : State) (call : Call) : Type 0 where
  pub stays : P s.volatile
  pub asked : (tag : ℕ) (q : Query) → IsQueryOf call tag q →
      P (volatile_after (numbers_of s) (mended s) s.volatile q)
  pub refused : (r : Request) → IsCommand call r → P (refused_state s r).volatile
  pub told : (r : Request) (what : Told) → P (volatile_told s r what)
  pub managed : (lun function : ℕ) → IsRequestOf call lun function → P (volatile_managed s lun function)
  pub reset : (kind : ℕ) → IsEventOf call kind → P (volatile_reset kind s.volatile)

-- what a host says does nothing before it is heard
command_first : (s : State) (call : Call) (answer : Answer) (r : Request) → IsCommand call r → first s call answer ≡ s
command_first s (Host heard) answer r is = refl
command_first s (Take die) answer r is = absurd is
command_first s (Done die ending left) answer r is = absurd is
command_first s Turn answer r is = absurd is
command_first s Reply answer r is = absurd is

event_first : (s : State) (call : Call) (answer : Answer) (kind : ℕ) → IsEventOf call kind → first s call answer ≡ s
event_first s (Host heard) answer kind is = refl
event_first s (Take die) answer kind is = absurd is
event_first s (Done die ending left) answer kind is = absurd is
event_first s Turn answer kind is = absurd is
event_first s Reply answer kind is = absurd is

completed_volatile : (s : State) (task : Task) (k : Completion) → (completed s task k).volatile ≡ s.volatile
completed_volatile s task (AnsweredSo status released) = refl
completed_volatile s task k = refl

module _ (P : Volatile → Type 0) (s : State) (call : Call) (answer : Answer) (k : IsVolatileKept P s call) where
  first_stays : P (first s call answer).volatile
  first_stays =
      subst P
      (sym (first_kept (λ t u. u.volatile ≡ t.volatile) (λ t. refl) (λ t move array. refl) s call answer)) k.stays

  begun_stays : (r : Request) (unit : ℕ) (c : Cdb) → P (begun s r unit c).volatile
  begun_stays r unit c = begins_by (λ t. P t.volatile) s r unit c one
    where
      one : (b : Beginning) → WhyBegun s r unit c b → P (begun_as s r c b).volatile
      one (Telling volatile bytes) why = subst P (sym why.leaves) (k.told r why.what)
      one (Handing region n) why = k.stays
      one b why = k.stays

  happens : (h : Happening) → Why s call answer h → P (happened (first s call answer) h).volatile
  happens (Tells volatile short) (tag, q, ok, none, is, same) = subst P (sym is) (k.asked tag q ok.is)
  happens (Aborts volatile those short) (lun, function, asks, is) = subst P (sym is) (k.managed lun function asks)
  happens (Resets kind) is =
      subst (λ (t : State). P (volatile_reset kind t.volatile)) (sym (event_first s call answer kind is))
      (k.reset kind is)
  happens (Refuses r status) (a, e) =
      subst (λ (t : State). P (refused_state t r).volatile) (sym (command_first s call answer r a.is))
      (k.refused r a.is)
  happens (Begins r c) (a, e, passed) =
      subst (λ (t : State). P (begun t r (unit_or_first (unit_of_request t r)) c).volatile)
      (sym (command_first s call answer r a.is)) (begun_stays r (unit_or_first (unit_of_request s r)) c)
  happens (Completes task c) why = subst P (sym (completed_volatile (first s call answer) task c)) first_stays
  happens h why = first_stays

  behind_volatile : P (behind s call answer).volatile
  behind_volatile = behind_by (λ t. P t.volatile) s call answer happens

  -- registers and lock leave it
  pub call_volatile : P (observe s call answer).volatile
  call_volatile =
      if_both (λ (t : State). P t.volatile) (locked (fills (behind s call answer))) behind_volatile behind_volatile

-- ## The numbers of the device

abbrev SameNumbers : State → State → Type 0
SameNumbers s t = numbers_of t ≡ numbers_of s

small_numbers : (s : State) (change : Change) → IsSmall change → SameNumbers s (changed s change)
small_numbers s (Moves move) is = move_numbers s.translation move
small_numbers s change is = refl

pub same_numbers : (s : State) (call : Call) (answer : Answer) → numbers_of (observe s call answer) ≡ numbers_of s
same_numbers s call answer =
    (call_kept SameNumbers (record { self = λ t. refl; both = λ t u v h g. g ∙ h; one = small_numbers })
    (λ t move array. move_numbers t.translation move) s call answer).1
