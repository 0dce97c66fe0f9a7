-- Behind the frames of a request to the RPMB the device and the journal agree.
use Rattle.heard_laws.proofs.Common.{Answering, Awaiting, Bool, CanApplyAll, Deed, Frame, Frames, Good, List, None}
use Rattle.heard_laws.proofs.Common.{OpenTask, ReadingArea, Some, State, Status, Task, [], accepted_by, accepted_in, ap}
use Rattle.heard_laws.proofs.Common.{arith, false, false≢true, find, has_tag, if_both, length, length-append, mended}
use Rattle.heard_laws.proofs.Common.{not, numbers_of, plain_now, refl, same_task, state_at, sym, task_of, true, without}
use Rattle.heard_laws.proofs.Common.{ℕ, ◌++◌, ◌+◌, ◌∷◌, ◌≡◌}
use Rattle.std.proofs.Common.{◌||◌}
use Rattle.std.specs.Prelude.{slice_set}
use Rattle.ufs_spec.specs.Commands.{Command}
use Rattle.ufs_spec.specs.FrameRequests.{answered_at_once, reads_area, request_decided}
use Rattle.ufs_spec.specs.Rpmb.{Refused, Results, RpmbOutcome}
use Rattle.journal.specs.Heard.{Heard, brought, open_again, with_command, with_state}
use Rattle.journal.specs.Requests.{state_after}
use Rattle.journal.specs.declared.tasks.Awaited.TheVariants.{Nothing}
use Rattle.heard_laws.proofs.agreement.Agreement.{AgreeIn, AtMost, Waits}
use Rattle.heard_laws.proofs.agreement.PairsOpened.{at_most_of}
use Rattle.heard_laws.proofs.host_data.DataLands.{again, lands, lands_accepted}
use Rattle.heard_laws.proofs.host_data.FramesHeard.{accepted_is_for}
use Rattle.heard_laws.proofs.host_data.RegionsKept.{last_applies, one_changes}
use Rattle.heard_laws.proofs.rolls.Rolls.{Roll, count, count_all, count_none, somes, somes_some}
use Rattle.heard_laws.proofs.rolls.StandingRolls.{as_long}

-- frames come to a device that is mended or locked, so that it accepts nothing just where it is locked
pub nothing_told : (is_locked is_mended : Bool) → (is_locked || is_mended) ≡ true →
    (is_locked || not is_mended) ≡ is_locked
nothing_told true is_mended e = refl
nothing_told false true e = refl
nothing_told false false e = absurd (false≢true e)

module _ (s : State) (held : ℕ) (j : Heard) (task : Task) (a : AgreeIn s held s j)
    (found : task_of task.tag s.tasks ≡ Some task) (region : ℕ)
    (h : Waits (numbers_of s) task.lun (Frames region) (find (has_tag task.tag) j.tasks)) (frames : List Frame) where
  abbrev t : OpenTask
  t = h.task

  abbrev k : Heard
  k = record j { tasks = without task.tag j.tasks }

  zero : AtMost 0 a.roll (Some (again t t.promised Nothing))
  zero =
      let e = ap (λ (p : ℕ). count p a.roll) h.nothing in
      at_most_of a.roll (again t t.promised Nothing) (omega (arith, e, count_none a.roll))

  -- the task of a request without a command
  abbrev with_result : ℕ → Deed → Task → Task
  with_result result deed x =
      record x {
        deed = deed;
        request = Some (record { region = region; frames = frames; result = result; filled = false });
      }

  refused : (status : Status) (result : ℕ) →
      AgreeIn s held (request_decided s task region frames (Refused status)) (open_again k t.name t.promised Nothing)
  refused status result =
      lands s held j task a found (λ x. record x { deed = Answering status task.length })
      (λ x. same_task x _ x.request) t h.is Nothing refl (λ good. zero)

  at_once : (fs : List Frame) (result : ℕ) →
      AgreeIn s held (answered_at_once s task region fs result) (open_again k t.name t.promised Nothing)
  at_once [] result =
      lands s held j task a found (λ x. record x { deed = Answering Good task.length })
      (λ x. same_task x _ x.request) t h.is Nothing refl (λ good. zero)
  at_once (f ∷ fs) result =
      if_both (λ (u : State). AgreeIn s held u (open_again k t.name t.promised Nothing)) (reads_area f result)
      (lands s held j task a found (λ x. record x { deed = ReadingArea _; request = Some _ })
      (λ x. same_task x _ _) t h.is Nothing refl zero)
      (lands s held j task a found (λ x. record x { deed = Answering Good task.length; request = Some _ })
      (λ x. same_task x _ _) t h.is Nothing refl (λ good. zero))

  -- a key or a write is accepted
  accepts_it : (result : ℕ) (c : Command) →
      accepted_by region (state_at j.regions region) j.locked frames ≡ Some c →
      CanApplyAll s.base (s.accepted ++ c ∷ []) → mended s ≡ true →
      AgreeIn s held (request_decided s task region frames (Results result (Some c)))
      (open_again (with_state (with_command k c) region c) t.name (length j.entries + 1) Nothing)
  accepts_it result c is can mends =
      lands_accepted s held j task a found (λ x. with_result result (Awaiting (length s.accepted + 1)) x)
      (λ x. same_task x _ _) t h.is Nothing refl (length j.entries + 1) (omega arith) c
      (slice_set j.regions region (state_after (state_at j.regions region) (Some c)))
      (one_changes j.regions (plain_now s) region c
      (accepted_is_for region (state_at j.regions region) j.locked frames c is)
      (last_applies s.base s.accepted c can) a.regions) mends
      (let grown : Roll = a.roll ++ Some c ∷ [] in
      let long = as_long j.entries a.roll a.books.stand in
      let one = length-append a.roll (Some c ∷ []) in
      let n = count_all (length j.entries + 1) grown (omega (arith, long, one)) in
      let cs = ap length (somes_some a.roll c) in
      let m = length-append (somes a.roll) (c ∷ []) in
      let acc = ap length a.books.accepted_are in
      at_most_of grown (again t (length j.entries + 1) Nothing) (omega (arith, n, cs, m, acc)))

  -- what was decided of the frames, and what the journal took of them
  pub by_outcome : (o : RpmbOutcome) → accepted_in o ≡ accepted_by region (state_at j.regions region) j.locked frames →
      CanApplyAll s.base (request_decided s task region frames o).accepted →
      ((c : Command) → accepted_in o ≡ Some c → mended s ≡ true) →
      AgreeIn s held (request_decided s task region frames o) (brought k t.name t.promised region (accepted_in o))
  by_outcome (Refused status) same can mends = refused status 0
  by_outcome (Results result None) same can mends = at_once frames result
  by_outcome (Results result (Some c)) same can mends = accepts_it result c (sym same) can (mends c refl)
