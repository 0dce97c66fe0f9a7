-- What an event leaves of the pages of the dies: what holds of them and is kept by each end of a job is kept by each
-- event.
use Rattle.power_loss.proofs.Common.{◌≡◌, ℕ, if◌then◌else◌, [], ◌∷◌, Option, Some, None, refl, sym, ap, subst, inl, inr}
use Rattle.power_loss.proofs.Common.{Array, Cell, Crash, Erasing, Flight, Programming, Reading, Spot, at_place}
use Rattle.power_loss.proofs.Common.{flight_alone, page_of, Ending, WentWell, WentWrong, Place}
use Rattle.power_loss.proofs.MachineWords.{blank_page, IsCall, IsFailure, IsFinish, IsLeft, IsLeftoverOf, Leads}
use Rattle.power_loss.proofs.MachineWords.{ended_well, Call, Done, in_block, State, numbers_of, Event, Leftover, Output}
use Rattle.ufs_spec.specs.declared.events.Event.TheVariants as event
use Rattle.ufs_spec.specs.declared.events.Leftover.TheVariants as leftover
use Rattle.power_loss.proofs.calls.CallsLeaveTheDevice.{Leaves, array_ended, call_array}

-- it holds of what a job that failed leaves
abbrev LeavesAs : (Array → Type 0) → Ending → Array → Type 0
LeavesAs Q (WentWrong cells) left = Q left
LeavesAs Q ending left = Unit {0}

-- it holds of what the call leaves, where a job failed
abbrev CallLeaves : (Array → Type 0) → Call → Type 0
CallLeaves Q (Done die ending left) = LeavesAs Q ending left
CallLeaves Q call = Unit {0}

well_leaves : (Q : Array → Type 0) (flight : Flight) (left : Array) → LeavesAs Q (ended_well flight) left
well_leaves Q (Reading reader place) left = tt
well_leaves Q flight left = tt

-- what an interrupted job may leave
pub record FailedJob (s : State) (die : ℕ) (flight : Flight) (l : Leftover) (left : Array) : Type 0 where
  pub flies : s.translation.disk.flights die ≡ Some flight
  pub fit : IsLeftoverOf (numbers_of s) (Some flight) l
  pub is_left : IsLeft s.array (l ∷ []) left
  pub crash : Crash s.array (flight_alone s.translation.disk.flights die) left

-- what holds of the pages, and is kept by each end of a job
pub record IsKeptByJobs (s : State) (Q : Array → Type 0) : Type 0 where
  pub now : Q s.array
  pub programmed : (die : ℕ) (p : Place) (cell : Cell) → s.translation.disk.flights die ≡ Some (Programming p cell) →
      Q (at_place s.array p (page_of cell))
  pub erased : (die : ℕ) (spot : Spot) → s.translation.disk.flights die ≡ Some (Erasing spot) →
      Q (λ p. if in_block (numbers_of s) spot p then blank_page else s.array p)
  pub failed : (die : ℕ) (flight : Flight) (l : Leftover) (left : Array) → FailedJob s die flight l left → Q left

module _ (s : State) (Q : Array → Type 0) (k : IsKeptByJobs s Q) where
  ended : (die : ℕ) (flight : Option Flight) → s.translation.disk.flights die ≡ flight → (ending : Ending)
      (left : Array) → LeavesAs Q ending left → Q (array_ended s flight ending left)
  ended die (Some (Programming place cell)) e WentWell left is = k.programmed die place cell e
  ended die (Some (Programming place cell)) e (WentWrong cells) left is = is
  ended die (Some (Erasing spot)) e WentWell left is = k.erased die spot e
  ended die (Some (Erasing spot)) e (WentWrong cells) left is = is
  ended die (Some (Reading reader place)) e (WentWrong cells) left is = is
  ended die flight e ending left is = k.now

  failure : (die : ℕ) (flight : Option Flight) → s.translation.disk.flights die ≡ flight → (l : Option Leftover)
      (ending : Ending) (left : Array) → IsFailure s die flight l ending left → LeavesAs Q ending left
  failure die (Some (Programming place cell)) e (Some l) (WentWrong cells) left h =
      k.failed die (Programming place cell) l left (record { flies = e; fit = h.0; is_left = h.1; crash = h.2 })
  failure die (Some (Erasing spot)) e (Some l) (WentWrong cells) left h =
      k.failed die (Erasing spot) l left (record { flies = e; fit = h.0; is_left = h.1; crash = h.2 })
  failure die (Some (Reading reader place)) e (Some (leftover.Page q page)) (WentWrong cells) left h = absurd h.0
  failure die (Some (Reading reader place)) e (Some (leftover.Block d block pages)) (WentWrong cells) left h =
      absurd h.0
  failure die flight e l (WentWrong cells) left h = absurd h
  failure die flight e l ending left h = tt

  finish : (die : ℕ) (flight : Option Flight) (call : Call) → IsFinish s die flight call → CallLeaves Q call
  finish die None call h = absurd h
  finish die (Some flight) call h = subst (CallLeaves Q) (sym h) (well_leaves Q flight s.array)

  call_leaves : (e : Event) (call : Call) → IsCall s e call → CallLeaves Q call
  call_leaves (event.Host bytes) call h = subst (CallLeaves Q) (sym h.2) tt
  call_leaves (event.Finish die) call h = finish die (s.translation.disk.flights die) call h
  call_leaves (event.Fail die l) call h =
      subst (CallLeaves Q) (sym h.3) (failure die (s.translation.disk.flights die) refl l h.0 h.1 h.2)
  call_leaves (event.Stop lefts) call h = absurd h
  call_leaves e call h = subst (CallLeaves Q) (sym h) tt

  behind_call : (call : Call) {array : Array} → CallLeaves Q call → Leaves s call array → Q array
  behind_call (Done die ending left) is (inl e) = subst Q (sym e) k.now
  behind_call (Done die ending left) is (inr e) =
      subst Q (sym e) (ended die (s.translation.disk.flights die) refl ending left is)
  behind_call call is e = subst Q (sym e) k.now

  -- it holds behind each event
  pub behind_event : {t : State} {e : Event} {o : Output} → Leads s e o t → Q t.array
  behind_event {e = e} h = subst Q (sym (ap (λ (x : State). x.array) h.next))
      (behind_call h.call (call_leaves e h.call h.is_call) (call_array s h.call h.answer))
